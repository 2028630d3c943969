-- What is done to its end, by what a run says.
use Rattle.std.proofs.Common.{◌≡◌, ◌⊎◌, inl, inr, ⊎_elim, ℕ, List, Option, None, Some, IfSome, Result, Ok, Err, refl, sym, ◌∙◌, ap, subst, arith}
use Rattle.hl_base.specs.Causes.{Rose}
use Rattle.live_journal.specs.Loading.{fault_of}
use Rattle.live_journal.specs.declared.fault.OpenFault.{OpenFault}
use Rattle.report_commands.specs.declared.fault.WordsFault.TheVariants as words_fault
use Rattle.refusals.specs.Outcomes.{Judged, outcome_of}
use Rattle.refusals.specs.declared.refusal.PatternOf.{PatternOf}
use Rattle.refusals.specs.declared.refusal.Refusal.{Refusal}
use Rattle.refusals.specs.declared.refusal.Refusal.TheVariants as refusal
use Rattle.sample_text.specs.Sample.{sample_text}
use Rattle.command_words.specs.Usage.{usage_cause}
use Rattle.command_words.specs.declared.task.Origin.{Origin}
use Rattle.command_words.specs.declared.task.Origin.TheVariants as origins
use Rattle.command_words.specs.declared.task.StoreTask.{StoreTask}
use Rattle.command_words.specs.declared.task.StoreTask.TheVariants as stored
use Rattle.command_words.specs.declared.task.Task.{Task}
use Rattle.command_words.specs.declared.task.Task.TheVariants as task
use Rattle.command_words.specs.declared.task.TextTask.{TextTask}
use Rattle.command_words.specs.declared.usage.UsageFault.{UsageFault}
use Rattle.command_words.specs.declared.usage.UsageFault.TheVariants as usages
use Rattle.command_line.specs.Answers.{IsStatus, IsTextStatus, Says, Wrote, line_of, status_of}
use Rattle.command_line.specs.Complete.{Completes, CompletesSample, CompletesStored, CompletesText, IsDone, NoneRose}
use Rattle.command_line.specs.Runs.{RunsText}
use Rattle.command_line.specs.Samples.{ToldSample, WantsMemory, sample_answer, sample_said}
use Rattle.command_line.specs.Scenes.{RefusedIn, Scene, SourceRose, judged_in}
use Rattle.command_line.specs.StoreRuns.{Ends}
use Rattle.command_line.proofs.Endings.{no_text, with_error}
use Rattle.command_line.proofs.Running.{SaysMemory}

-- ---- a command over a text

abbrev TellsStatus : ℕ → Option (List ℕ) → Option (List ℕ) → Option Judged → Type 0
TellsStatus status old new told = IfSome told (λ t. ((outcome_of t).status ≡ status) × Wrote old new (outcome_of t).error)

module _ (given : TextTask) (day status : ℕ) (old new : Scene) (runs : RunsText given day status old new) (none : NoneRose old new)
    (quiet : (what : PatternOf) → RefusedIn given day old new what → ⊥) (told : Judged) (is : judged_in given day old ≡ Some told)
    (good : (outcome_of told).status ≡ 0) where
  unrefused : IsTextStatus status → ⊥
  unrefused text =
      ⊎_elim (λ h.
      let found = subst (TellsStatus status old.error new.error) is h.0 in
      no_text status 0 (sym found.0 ∙ good) (λ x. omega arith) (λ x. omega arith) (λ x. omega arith) text)
      (λ h. quiet h.0 h.1) (runs.refused text).cause

  source_stays : (origin : Origin) → SourceRose origin old new → ⊥
  source_stays origins.Input rose = none.reads rose
  source_stays (origins.File name) rose = none.shelf rose.0
  source_stays (origins.Store name) rose = none.shelf rose.0

  by_status : IsStatus status → IsDone status
  by_status (inl e) = inl e
  by_status (inr (inl (inl text))) = absurd (unrefused text)
  by_status (inr (inl (inr e))) = absurd (runs.read e)
  by_status (inr (inr (inl e))) = absurd (source_stays given.origin (runs.read_fault e).0)
  by_status (inr (inr (inr (inl e)))) = absurd (⊎_elim (λ h. none.output h.0.0) (λ h. none.error h.0.0) (runs.write_fault e))
  by_status (inr (inr (inr (inr (inl e))))) = absurd (none.disks (runs.disk_fault e).1)
  by_status (inr (inr (inr (inr (inr e))))) = inr e

pub complete_text : (given : TextTask) (day status : ℕ) (old new : Scene) → IsStatus status → RunsText given day status old new
    → CompletesText given day status old new
complete_text given day status old new kind runs = λ none quiet told is good. by_status given day status old new runs none quiet told is good kind

-- ---- a text that is written

pub complete_written : (status before now : ℕ) → (status ≡ 0) ⊎ (status ≡ 4) → (status ≡ 4 → Rose before now) → (Rose before now → ⊥) → IsDone status
complete_written status before now (inl e) rose none = inl e
complete_written status before now (inr e) rose none = absurd (none (rose e))

-- ---- refusals for want of memory

pub said_memory : (x : Refusal) (status : ℕ) (old new : Option (List ℕ)) (fo fn : ℕ) → status_of x ≡ 6 → (Rose fo fn → ⊥)
    → Says status (status_of x) (line_of x) old new fo fn → IsDone status
said_memory x status old new fo fn is none (inl h) = inr (h.0 ∙ is)
said_memory x status old new fo fn is none (inr h) = absurd (none h.1)

pub memory_status : (x : Refusal) → WantsMemory x → status_of x ≡ 6
memory_status x (inl e) = ap status_of e
memory_status x (inr e) = ap status_of e

-- ---- a sample

written_sample : (status : ℕ) (old new : Scene) (output : List ℕ) → NoneRose old new → Ends status old new (Ok output) → IsDone status
written_sample status old new output none (inl h) = inl h.0
written_sample status old new output none (inr h) = absurd (none.output h.1.0)

sample_by : (count status : ℕ) (old new : Scene) (answer : Result (List ℕ) Refusal) (o : Option OpenFault) → o ≡ None → NoneRose old new
    → ToldSample (sample_said count o) answer → Ends status old new answer → IsDone status
sample_by count status old new (Ok output) o is none told ends = written_sample status old new output none ends
sample_by count status old new (Err x) o is none told ends =
    let wants : WantsMemory x = subst (λ (f : Option OpenFault). ToldSample (sample_said count f) (Err x)) is told in
    said_memory x status old.error new.error old.error_faults new.error_faults (memory_status x wants) none.error ends.0

pub complete_sample : (count status : ℕ) (old new : Scene) (answer : Result (List ℕ) Refusal) → ToldSample (sample_answer count) answer → Ends status old new answer
    → CompletesSample count status old new
complete_sample count status old new answer told ends = λ none loads.
    sample_by count status old new answer (fault_of None (sample_text count)) loads none told ends

-- ---- words for which there was no memory

memory_done : (status : ℕ) (old : Scene) (error : Option (List ℕ)) (faults : ℕ) → SaysMemory status old error faults
    → NoneRose old (with_error old error faults) → IsDone status
memory_done status old error faults (inl h) none = inr h.0
memory_done status old error faults (inr h) none = absurd (none.error h.1)

stored_memory : (day status : ℕ) (old : Scene) (error : Option (List ℕ)) (faults : ℕ) (what : StoreTask) → SaysMemory status old error faults
    → CompletesStored what day status old (with_error old error faults)
stored_memory day status old error faults (stored.Init what) h = λ none plain text is loads told free. memory_done status old error faults h none
stored_memory day status old error faults (stored.Add name) h = λ none patterns told entry is well. memory_done status old error faults h none
stored_memory day status old error faults (stored.Import what) h = λ none patterns told csv rules is is_rules well. memory_done status old error faults h none
stored_memory day status old error faults (stored.Preview what) h = λ none patterns told csv rules is is_rules within well. memory_done status old error faults h none
stored_memory day status old error faults (stored.Replace what) h = λ none patterns plain told text is well. memory_done status old error faults h none
stored_memory day status old error faults (stored.Explain what) h = λ none patterns told csv rules is is_rules txns made. memory_done status old error faults h none
stored_memory day status old error faults (stored.Feed name) h = λ none told shown is. memory_done status old error faults h none
stored_memory day status old error faults (stored.Follow what) h = λ none told ready. memory_done status old error faults h none

memory_complete : (day status : ℕ) (old : Scene) (error : Option (List ℕ)) (faults : ℕ) (what : Result Task UsageFault) → SaysMemory status old error faults
    → Completes day status old (with_error old error faults) what
memory_complete day status old error faults (Ok (task.Over given)) h = λ none quiet told is good. memory_done status old error faults h none
memory_complete day status old error faults (Ok (task.Stored what)) h = stored_memory day status old error faults what h
memory_complete day status old error faults (Ok (task.Talk what)) h = λ none loads bytes is whole. memory_done status old error faults h none
memory_complete day status old error faults (Ok (task.Sample count)) h = λ none loads. memory_done status old error faults h none
memory_complete day status old error faults (Ok (task.Help subject)) h = λ none. memory_done status old error faults h none
memory_complete day status old error faults (Ok task.Version) h = λ none. memory_done status old error faults h none
memory_complete day status old error faults (Err fault) h = tt

module _ (day status : ℕ) (old : Scene) (error : Option (List ℕ)) (faults : ℕ) (r : Refusal) (what : Result Task UsageFault) where
  abbrev AfterWords : Result Task UsageFault → Type 0
  AfterWords w = Completes day status old (with_error old error faults) w

  told_complete : (fault : UsageFault) → what ≡ Err fault → AfterWords what
  told_complete fault is = subst (λ (w : Result Task UsageFault). AfterWords w) (sym is) tt

  pub words_complete : (fault : UsageFault) → IfSome (usage_cause fault) (λ f. what ≡ Err f) → (fault ≡ usages.Words words_fault.Memory → r ≡ refusal.Memory)
      → Says status (status_of r) (line_of r) old.error error old.error_faults faults → AfterWords what
  words_complete (usages.Words (words_fault.NoCommand word)) told memory h = told_complete (usages.Words (words_fault.NoCommand word)) told
  words_complete (usages.Words (words_fault.BadOption word)) told memory h = told_complete (usages.Words (words_fault.BadOption word)) told
  words_complete (usages.Words (words_fault.Conflict a b)) told memory h = told_complete (usages.Words (words_fault.Conflict a b)) told
  words_complete (usages.Words (words_fault.BadTerm word)) told memory h = told_complete (usages.Words (words_fault.BadTerm word)) told
  words_complete (usages.Words (words_fault.PatternRefused word)) told memory h = told_complete (usages.Words (words_fault.PatternRefused word)) told
  words_complete (usages.Words (words_fault.Report fault)) told memory h = told_complete (usages.Words (words_fault.Report fault)) told
  words_complete usages.Missing told memory h = told_complete usages.Missing told
  words_complete (usages.Words words_fault.Memory) told memory h =
      memory_complete day status old error faults what
      (subst (λ (x : Refusal). Says status (status_of x) (line_of x) old.error error old.error_faults faults) (memory refl) h)
