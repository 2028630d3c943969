-- The exit statuses of `serve`.
use Rattle.std.proofs.Common.{◌≡◌, ◌≢◌, ◌⊎◌, ◌∙◌, inl, inr, ℕ, Bool, true, false, List, Option, OnOk, Result, Ok, Err, refl, sym, ap, subst, arith}
use Rattle.hl_base.specs.declared.disk.Disk.{Ghosts as Disks}
use Rattle.hl_base.specs.declared.shelf.Shelf.{Ghosts as Shelves}
use Rattle.book.specs.declared.fault.Cause.{Cause}
use Rattle.book.specs.declared.fault.Cause.TheVariants as causes
use Rattle.refusals.specs.Errors.{fault_status, usage_line, write_fault_line}
use Rattle.refusals.specs.declared.refusal.Refusal.{Refusal}
use Rattle.refusals.specs.declared.refusal.Refusal.TheVariants as refusal
use Rattle.shared_desk.specs.Stays.{KitTold}
use Rattle.desk_team.specs.Houses.{HouseTold}
use Rattle.desk_team.specs.declared.hosting.HouseFault.TheVariants as house_fault
use Rattle.store_text.specs.Refusals.{status_of as store_status}
use Rattle.store_text.specs.declared.refusal.StoreRefusal.{StoreRefusal}
use Rattle.store_text.specs.declared.refusal.StoreRefusal.TheVariants as store
use Rattle.store_making.specs.Lines.{status_of as making_status}
use Rattle.store_making.specs.declared.refusal.JournalRefusal.{JournalRefusal}
use Rattle.store_making.specs.declared.refusal.JournalRefusal.TheVariants as making
use Rattle.serve_commands.specs.Lines.{IsSaid, RefusedAs, line_of as unserved_line, status_of as unserved_status}
use Rattle.serve_commands.specs.declared.answer.Ended.{Ended}
use Rattle.serve_commands.specs.declared.answer.Serving.{Serving as Asked}
use Rattle.serve_commands.specs.declared.outcome.Tally.{Tally}
use Rattle.serve_commands.specs.declared.outcome.Unserved.{Unserved}
use Rattle.serve_commands.specs.declared.outcome.Unserved.TheVariants as unserved
use Rattle.command_line.specs.Answers.{Says, line_of, status_of}
use Rattle.serve_line.specs.Runs.{AnswersOrMemory, EndsServe, IsServeStatus, IsWritten, Sinks, door_fault_line}
use Rattle.serve_line.specs.declared.program.Site.{Site}
use Rattle.serve_line.specs.declared.words.NoReading.{NoReading}
use Rattle.serve_line.specs.declared.words.NoReading.TheVariants as no_reading

-- an exit status, and not that of words without a reading
abbrev IsTold : ℕ → Type 0
IsTold n = IsServeStatus n × (n ≢ 2)

zero_told : IsTold 0
zero_told = (inl (inl refl), λ e. omega arith)

one : IsTold 1
one = (inl (inr (inl (inl (inl refl)))), λ e. omega arith)

three : IsTold 3
three = (inl (inr (inr (inl refl))), λ e. omega arith)

four : IsTold 4
four = (inl (inr (inr (inr (inl refl)))), λ e. omega arith)

five : IsTold 5
five = (inl (inr (inr (inr (inr (inl refl))))), λ e. omega arith)

six : IsTold 6
six = (inl (inr (inr (inr (inr (inr refl))))), λ e. omega arith)

seven : IsTold 7
seven = (inl (inr (inl (inl (inr (inl refl))))), λ e. omega arith)

eight : IsTold 8
eight = (inl (inr (inl (inl (inr (inr refl))))), λ e. omega arith)

nine : IsTold 9
nine = (inr refl, λ e. omega arith)

usage : IsServeStatus 2
usage = inl (inr (inl (inr refl)))

-- ---- of refusals

store_told : (r : StoreRefusal) → IsTold (store_status r)
store_told store.Absent = eight
store_told (store.NotAStore at) = eight
store_told (store.Newer version) = eight
store_told (store.Exists len) = eight
store_told (store.Full size limit) = seven
store_told store.ReadFault = three
store_told store.DiskFault = five
store_told store.Memory = six

cause_told : (c : Cause) → IsTold (fault_status c)
cause_told causes.Form = one
cause_told causes.Date = one
cause_told causes.Number = one
cause_told causes.Account = one
cause_told causes.StatusMark = one
cause_told causes.Directive = one
cause_told causes.Quote = one
cause_told causes.TooLong = seven
cause_told causes.Encoding = one
cause_told causes.TwoMissing = one
cause_told causes.NotAllowed = one
cause_told (causes.Unbalanced symbol sum) = one
cause_told (causes.AssertionFailed wanted found) = one
cause_told causes.Range = one

unserved_told : (e : Unserved) → IsTold (unserved_status e)
unserved_told (unserved.Store (making.Store r)) = store_told r
unserved_told (unserved.Store (making.Load fault)) = cause_told fault.cause
unserved_told (unserved.Store (making.TooLarge limit size)) = seven
unserved_told (unserved.Store making.Memory) = six
unserved_told (unserved.House house_fault.Failed) = nine
unserved_told (unserved.House house_fault.Memory) = six

refusal_told : (x : Refusal) (status : ℕ) (line : List ℕ) → IsTold status → RefusedAs status line x → IsTold (status_of x)
refusal_told x status line told (inl memory) = subst (λ (y : Refusal). IsTold (status_of y)) (sym memory) six
refusal_told x status line told (inr own) = subst (λ (y : Refusal). IsTold (status_of y)) (sym own) told

said_told : (name : List ℕ) (served : Result Tally Unserved) (x : Refusal) → IsSaid name served (Err x) → IsTold (status_of x)
said_told name (Ok tally) x memory = subst (λ (y : Refusal). IsTold (status_of y)) (sym memory) six
said_told name (Err e) x h = refusal_told x (unserved_status e) (unserved_line name e) (unserved_told e) h

-- ---- of what was written

says_told : (status own : ℕ) (line : List ℕ) (old new : Option (List ℕ)) (faults faults_now : ℕ) → IsTold own
    → Says status own line old new faults faults_now → IsTold status
says_told status own line old new faults faults_now told (inl h) = subst (λ (n : ℕ). IsTold n) (sym h.0) told
says_told status own line old new faults faults_now told (inr h) = subst (λ (n : ℕ). IsTold n) (sym h.0) four

says_usage : (status : ℕ) (line : List ℕ) (old new : Option (List ℕ)) (faults faults_now : ℕ)
    → Says status 2 line old new faults faults_now → IsServeStatus status
says_usage status line old new faults faults_now (inl h) = subst (λ (n : ℕ). IsServeStatus n) (sym h.0) usage
says_usage status line old new faults faults_now (inr h) = subst (λ (n : ℕ). IsServeStatus n) (sym h.0) four.0

module _ (status : ℕ) (before now : Sinks) where
  written_told : (failed : Bool) (line : List ℕ) → IsWritten failed line status before now → IsTold status
  written_told false line (inl h) = subst (λ (n : ℕ). IsTold n) (sym h.0.0) zero_told
  written_told true line (inl h) = says_told status 9 door_fault_line before.error now.error before.error_faults now.error_faults nine h.0
  written_told failed line (inr h) = says_told status 4 write_fault_line before.error now.error before.error_faults now.error_faults four h.0

  refused_told : (x : Refusal) → IsTold (status_of x) → EndsServe (Err x) status before now → IsTold status
  refused_told x told h = says_told status (status_of x) (line_of x) before.error now.error before.error_faults now.error_faults told h.0

  answer_told : (name : List ℕ) (served : Result Tally Unserved) (answer : Result Ended Refusal) → IsSaid name served answer
      → EndsServe answer status before now → IsTold status
  answer_told name served (Ok said) h ends = written_told said.failed said.line ends
  answer_told name served (Err x) h ends = refused_told x (said_told name served x h) ends

  memory_told : (answer : Result Ended Refusal) → answer ≡ Err refusal.Memory → EndsServe answer status before now → IsTold status
  memory_told answer is ends =
      refused_told refusal.Memory six (subst (λ (r : Result Ended Refusal). EndsServe r status before now) is ends)

  usage_told : (answer : Result Ended Refusal) → answer ≡ Err (refusal.Line 2 usage_line) → EndsServe answer status before now → IsServeStatus status
  usage_told answer is ends =
      let said = subst (λ (r : Result Ended Refusal). EndsServe r status before now) is ends in
      says_usage status usage_line before.error now.error before.error_faults now.error_faults said.0

  module _ {J O E S D M H A K : Type 0} (s : Shelves S D) (g : Disks D) (tell : A → KitTold K) (coming sent : K → Option (List ℕ))
      (told : H → HouseTold A) (old new : Site J O E S M H) where
    pub status_so : (read : Result Asked NoReading) (answer : Result Ended Refusal) → AnswersOrMemory s g tell coming sent told read old new answer
        → EndsServe answer status before now → IsServeStatus status × OnOk read (status ≢ 2)
    status_so (Ok asked) answer (inl h) ends = answer_told asked.store h.serves.served answer h.serves.says ends
    status_so (Ok asked) answer (inr h) ends = memory_told answer h.0 ends
    status_so (Err no_reading.Usage) answer (inl h) ends = (usage_told answer h.0 ends, tt)
    status_so (Err no_reading.Usage) answer (inr h) ends = ((memory_told answer h.0 ends).0, tt)
    status_so (Err no_reading.Memory) answer (inl h) ends = absurd h
    status_so (Err no_reading.Memory) answer (inr h) ends = ((memory_told answer h.0 ends).0, tt)
