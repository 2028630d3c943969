-- Runs that end with their words: no reading, or no memory for them.
use Rattle.std.proofs.Common.{◌≡◌, ◌≢◌, ◌⊎◌, inl, inr, ℕ, List, Option, Some, None, Result, Ok, Err, IfSome, length, refl, sym, subst, arith}
use Rattle.hl_base.specs.Causes.{Rose}
use Rattle.report_commands.specs.declared.fault.WordsFault.TheVariants as words_fault
use Rattle.command_words.specs.declared.task.Origin.{Origin}
use Rattle.command_words.specs.declared.task.Origin.TheVariants as origins
use Rattle.command_words.specs.declared.task.TextTask.{TextTask}
use Rattle.command_words.specs.declared.task.Task.{Task}
use Rattle.command_words.specs.declared.task.Task.TheVariants as task
use Rattle.command_words.specs.declared.usage.UsageFault.{UsageFault}
use Rattle.command_words.specs.declared.usage.UsageFault.TheVariants as usages
use Rattle.refusals.specs.declared.refusal.Refusal.{Refusal}
use Rattle.refusals.specs.declared.refusal.Refusal.TheVariants as refusal
use Rattle.refusals.specs.Refusing.{Refuses}
use Rattle.book_commands.specs.Answers.{Finds}
use Rattle.command_line.specs.Answers.{Says, Wrote, WrotePrefix, status_of, line_of}
use Rattle.command_words.specs.Commands.{usage_of}
use Rattle.command_words.specs.Usage.{usage_cause}
use Rattle.refusals.specs.Errors.{memory_line}
use Rattle.command_line.specs.Help.{help_of, version_text}
use Rattle.refusals.specs.Outcomes.{Judged}
use Rattle.command_line.specs.Runs.{AnswersText, Prints, RefusesWords, Runs, RunsSoundly}
use Rattle.command_line.specs.Scenes.{FilesStay, OtherStays, Scene, Soundness, judged_in}
use Rattle.command_line.proofs.Endings.{none_written, not_same, refused_report, refused_soundly, with_error}
use Rattle.command_line.proofs.Talking.{unasked}

-- what a refusal says, and that of want of memory
abbrev pub SaysRefusal : Refusal → ℕ → Scene → Option (List ℕ) → ℕ → Type 0
SaysRefusal r status old error faults = Says status (status_of r) (line_of r) old.error error old.error_faults faults

abbrev pub SaysMemory : ℕ → Scene → Option (List ℕ) → ℕ → Type 0
SaysMemory status old error faults = SaysRefusal refusal.Memory status old error faults

module _ (status : ℕ) (old : Scene) (error : Option (List ℕ)) (faults : ℕ) where
  six_or_four : SaysMemory status old error faults → (status ≡ 6) ⊎ (status ≡ 4)
  six_or_four (inl h) = inl h.0
  six_or_four (inr h) = inr h.0

  no_other : (n : ℕ) → (status ≡ 6) ⊎ (status ≡ 4) → status ≡ n → 6 ≢ n → 4 ≢ n → ⊥
  no_other n (inl h) e six four = not_same status 6 n h e six
  no_other n (inr h) e six four = not_same status 4 n h e four

  four_rose : SaysMemory status old error faults → status ≡ 4 → Rose old.error_faults faults
  four_rose (inl h) e = absurd (not_same status 6 4 h.0 e (λ x. omega arith))
  four_rose (inr h) e = h.1

  six_wrote : SaysMemory status old error faults → status ≡ 6 → Wrote old.error error memory_line
  six_wrote (inl h) e = h.1
  six_wrote (inr h) e = absurd (not_same status 4 6 h.0 e (λ x. omega arith))

  four_front : SaysMemory status old error faults → status ≡ 4 → WrotePrefix old.error error memory_line
  four_front (inl h) e = absurd (not_same status 6 4 h.0 e (λ x. omega arith))
  four_front (inr h) e = h.2

-- an answer for which there was no memory
free_found : (told : Option Judged) → IfSome told (Finds (Err refusal.Memory))
free_found None = tt
free_found (Some t) = tt

other_same : (origin : Origin) (s : Scene) → OtherStays origin s s
other_same origins.Input s = (refl, refl, refl)
other_same (origins.File name) s = ((refl, refl), refl)
other_same (origins.Store name) s = (refl, refl)

files_same : (origin : Origin) (s : Scene) → FilesStay origin s s
files_same origins.Input s = λ name. refl
files_same (origins.File name) s = λ other. refl
files_same (origins.Store name) s = (λ other a b. refl, λ told. refl)

memory_answers : (given : TextTask) (day : ℕ) (s : Scene) → AnswersText given day (Err refusal.Memory) s s
memory_answers given day s = record {
  found = free_found (judged_in given day s);
  kind = tt;
  whole = tt;
  rose = λ e. cc;
  disk_rose = λ e. cc;
  other = other_same given.origin s;
  files = files_same given.origin s;
  outputs = record { output = refl; output_faults = refl; error = refl; error_faults = refl };
  maker = inl (unasked s.refusals s.last_refused);
}

none_of : (out : Option (List ℕ)) (text : List ℕ) → WrotePrefix out out text
none_of out text = none_written (Some text) out out (λ t. t) refl

four_or_six : (status : ℕ) → (status ≡ 6) ⊎ (status ≡ 4) → (status ≡ 0) ⊎ ((status ≡ 4) ⊎ (status ≡ 6))
four_or_six status (inl h) = inr (inr h)
four_or_six status (inr h) = inr (inl h)

memory_prints : (text : List ℕ) (status : ℕ) (old : Scene) (error : Option (List ℕ)) (faults : ℕ) → SaysMemory status old error faults
    → Prints text status old (with_error old error faults)
memory_prints text status old error faults h =
    let kind = six_or_four status old error faults h in
    record {
      statuses = four_or_six status kind;
      written = λ e. absurd (no_other status old error faults 0 kind e (λ x. omega arith) (λ x. omega arith));
      quiet = λ e. absurd (no_other status old error faults 0 kind e (λ x. omega arith) (λ x. omega arith));
      prefix = none_of old.output text;
      write_fault = λ e. inr ((four_rose status old error faults h e, refl), four_front status old error faults h e);
      memory = λ e. (refl, six_wrote status old error faults h e);
      unread = (refl, refl);
      files = λ name. refl;
      maker = unasked old.refusals old.last_refused;
    }

-- there was no memory for the words
memory_runs : (words : List (List ℕ)) (day status : ℕ) (old : Scene) (error : Option (List ℕ)) (faults : ℕ) (what : Result Task UsageFault) → SaysMemory status old error faults
    → Runs words day status old (with_error old error faults) what
memory_runs words day status old error faults (Ok (task.Over given)) h =
    refused_report given day status old old error faults refusal.Memory (memory_answers given day old) h
memory_runs words day status old error faults (Ok (task.Stored what)) h = λ e. no_other status old error faults 2 (six_or_four status old error faults h) e (λ x. omega arith) (λ x. omega arith)
memory_runs words day status old error faults (Ok (task.Talk what)) h = λ e. no_other status old error faults 2 (six_or_four status old error faults h) e (λ x. omega arith) (λ x. omega arith)
memory_runs words day status old error faults (Ok (task.Sample count)) h = λ e. no_other status old error faults 2 (six_or_four status old error faults h) e (λ x. omega arith) (λ x. omega arith)
memory_runs words day status old error faults (Ok (task.Help subject)) h = memory_prints (help_of subject) status old error faults h
memory_runs words day status old error faults (Ok task.Version) h = memory_prints version_text status old error faults h
memory_runs words day status old error faults (Err fault) h =
    record { said = inr h; unread = (refl, refl); files = λ name. refl; unwritten = refl; maker = unasked old.refusals old.last_refused }

says_line : (status own : ℕ) (line told : List ℕ) (old new : Option (List ℕ)) (fo fn : ℕ) → own ≡ 2 → line ≡ told → Says status own line old new fo fn → Says status 2 told old new fo fn
says_line status own line told old new fo fn e l h =
    let F : ℕ → Type 0 = λ n. Says status n told old new fo fn in
    let G : List ℕ → Type 0 = λ t. Says status own t old new fo fn in
    subst F e (subst G l h)

-- the words have no reading
refused_runs : (r : Refusal) (line : List ℕ) (status : ℕ) (old : Scene) (error : Option (List ℕ)) (faults : ℕ) → Refuses r 2 line
    → SaysRefusal r status old error faults → RefusesWords line status old (with_error old error faults)
refused_runs (refusal.Line own told) line status old error faults k h = record {
  said = inl (says_line status own told line old.error error old.error_faults faults k.0 k.1 h);
  unread = (refl, refl);
  files = λ name. refl;
  unwritten = refl;
  maker = unasked old.refusals old.last_refused;
}
refused_runs (refusal.Pattern what told) line status old error faults k h = absurd k
refused_runs refusal.ReadFault line status old error faults k h = absurd k
refused_runs refusal.DiskFault line status old error faults k h = absurd k
refused_runs refusal.Memory line status old error faults k h =
    record { said = inr h; unread = (refl, refl); files = λ name. refl; unwritten = refl; maker = unasked old.refusals old.last_refused }

says_memory : (r : Refusal) (status : ℕ) (old : Scene) (error : Option (List ℕ)) (faults : ℕ) → r ≡ refusal.Memory → SaysRefusal r status old error faults → SaysMemory status old error faults
says_memory r status old error faults e h =
    let F : Refusal → Type 0 = λ x. SaysRefusal x status old error faults in
    subst F e h

memory_told : (r : Refusal) (status : ℕ) (error_room : ℕ → Type 0) → r ≡ refusal.Memory → (error_room (length (line_of r)) → status ≡ status_of r) → error_room (length memory_line) → status ≡ 6
memory_told r status error_room e h =
    let F : Refusal → Type 0 = λ x. error_room (length (line_of x)) → status ≡ status_of x in
    subst F e h

memory_sound : (words : List (List ℕ)) (day status : ℕ) (old : Scene) (error : Option (List ℕ)) (faults : ℕ) (sound : Soundness) (what : Result Task UsageFault)
    → SaysMemory status old error faults → (sound.error (length memory_line) → status ≡ 6) → RunsSoundly words day status old sound what
memory_sound words day status old error faults sound (Ok (task.Over given)) h own =
    refused_soundly given day status old old error faults refusal.Memory sound (memory_answers given day old) h (λ s e. cc) own
memory_sound words day status old error faults sound (Ok (task.Stored what)) h own = tt
memory_sound words day status old error faults sound (Ok (task.Talk what)) h own = tt
memory_sound words day status old error faults sound (Ok (task.Sample count)) h own = tt
memory_sound words day status old error faults sound (Ok (task.Help subject)) h own = λ room line e. not_same status 6 4 (own line) e (λ x. omega arith)
memory_sound words day status old error faults sound (Ok task.Version) h own = λ room line e. not_same status 6 4 (own line) e (λ x. omega arith)
memory_sound words day status old error faults sound (Err fault) h own = λ usage line e. not_same status 6 4 (own line) e (λ x. omega arith)

-- there is room for the line of the words, or for that of want of memory
refused_sound : (r : Refusal) (line : List ℕ) (status : ℕ) (error_room : ℕ → Type 0) → Refuses r 2 line → (error_room (length (line_of r)) → status ≡ status_of r)
    → error_room (length line) → error_room (length memory_line) → status ≢ 4
refused_sound (refusal.Line own told) line status error_room k says usage memory e =
    let F : List ℕ → Type 0 = λ l. error_room (length l) in
    let is : status ≡ own = says (subst F (sym k.1) usage) in
    omega (arith, is, k.0, e)
refused_sound (refusal.Pattern what told) line status error_room k says usage memory e = absurd k
refused_sound refusal.ReadFault line status error_room k says usage memory e = absurd k
refused_sound refusal.DiskFault line status error_room k says usage memory e = absurd k
refused_sound refusal.Memory line status error_room k says usage memory e = not_same status 6 4 (says memory) e (λ x. omega arith)

module _ (words : List (List ℕ)) (day status : ℕ) (old : Scene) (error : Option (List ℕ)) (faults : ℕ) (r : Refusal) (what : Result Task UsageFault) where
  -- a fault of the words that is told
  told_run : (fault : UsageFault) → what ≡ Err fault → Refuses r 2 (usage_of words fault) → SaysRefusal r status old error faults
      → Runs words day status old (with_error old error faults) what
  told_run fault told line h =
      let F : Result Task UsageFault → Type 0 = λ w. Runs words day status old (with_error old error faults) w in
      subst F (sym told) (refused_runs r (usage_of words fault) status old error faults line h)

  pub words_run : (fault : UsageFault) → IfSome (usage_cause fault) (λ f. what ≡ Err f) → Refuses r 2 (usage_of words fault)
      → (fault ≡ usages.Words words_fault.Memory → r ≡ refusal.Memory) → SaysRefusal r status old error faults
      → Runs words day status old (with_error old error faults) what
  words_run (usages.Words (words_fault.NoCommand word)) told line memory h = told_run (usages.Words (words_fault.NoCommand word)) told line h
  words_run (usages.Words (words_fault.BadOption word)) told line memory h = told_run (usages.Words (words_fault.BadOption word)) told line h
  words_run (usages.Words (words_fault.Conflict a b)) told line memory h = told_run (usages.Words (words_fault.Conflict a b)) told line h
  words_run (usages.Words (words_fault.BadTerm word)) told line memory h = told_run (usages.Words (words_fault.BadTerm word)) told line h
  words_run (usages.Words (words_fault.PatternRefused word)) told line memory h = told_run (usages.Words (words_fault.PatternRefused word)) told line h
  words_run (usages.Words (words_fault.Report fault)) told line memory h = told_run (usages.Words (words_fault.Report fault)) told line h
  words_run usages.Missing told line memory h = told_run usages.Missing told line h
  words_run (usages.Words words_fault.Memory) told line memory h =
      memory_runs words day status old error faults what (says_memory r status old error faults (memory refl) h)

  -- nothing is said to have failed that can't fail
  told_sound : (fault : UsageFault) (sound : Soundness) → what ≡ Err fault → Refuses r 2 (usage_of words fault)
      → (sound.error (length (line_of r)) → status ≡ status_of r) → RunsSoundly words day status old sound what
  told_sound fault sound told line own =
      let F : Result Task UsageFault → Type 0 = λ w. RunsSoundly words day status old sound w in
      subst F (sym told) (refused_sound r (usage_of words fault) status sound.error line own)

  pub words_sound : (fault : UsageFault) (sound : Soundness) → IfSome (usage_cause fault) (λ f. what ≡ Err f) → Refuses r 2 (usage_of words fault)
      → (fault ≡ usages.Words words_fault.Memory → r ≡ refusal.Memory) → SaysRefusal r status old error faults
      → (sound.error (length (line_of r)) → status ≡ status_of r) → RunsSoundly words day status old sound what
  words_sound (usages.Words (words_fault.NoCommand word)) sound told line memory h own = told_sound (usages.Words (words_fault.NoCommand word)) sound told line own
  words_sound (usages.Words (words_fault.BadOption word)) sound told line memory h own = told_sound (usages.Words (words_fault.BadOption word)) sound told line own
  words_sound (usages.Words (words_fault.Conflict a b)) sound told line memory h own = told_sound (usages.Words (words_fault.Conflict a b)) sound told line own
  words_sound (usages.Words (words_fault.BadTerm word)) sound told line memory h own = told_sound (usages.Words (words_fault.BadTerm word)) sound told line own
  words_sound (usages.Words (words_fault.PatternRefused word)) sound told line memory h own = told_sound (usages.Words (words_fault.PatternRefused word)) sound told line own
  words_sound (usages.Words (words_fault.Report fault)) sound told line memory h own = told_sound (usages.Words (words_fault.Report fault)) sound told line own
  words_sound usages.Missing sound told line memory h own = told_sound usages.Missing sound told line own
  words_sound (usages.Words words_fault.Memory) sound told line memory h own =
      memory_sound words day status old error faults sound what (says_memory r status old error faults (memory refl) h) (memory_told r status sound.error (memory refl) own)
