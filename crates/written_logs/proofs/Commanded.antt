-- What the command `hours` writes loads.
use Rattle.std.proofs.Common.{◌≡◌, ℕ, ◌^◌, ◌≤◌, List, length, Option, Ok, refl, ap}
use Rattle.balancing.proofs.Solving.{solves_loads}
use Rattle.book.specs.declared.transaction.Txn.{Txn}
use Rattle.refusals.specs.Outcomes.{Judged, Outcome, written}
use Rattle.book_commands.specs.Works.{entries_text, hours_made, hours_outcome, judge, log_txns, plain_context}
use Rattle.book_commands.specs.declared.work.LogForm.{LogForm}
use Rattle.book_commands.specs.declared.work.LogForm.TheVariants as forms
use Rattle.book_commands.specs.declared.work.Work.TheVariants as works
use Rattle.entry_reader.specs.Lines.{contents_of}
use Rattle.journal_printer.specs.Entries.{entry_shape}
use Rattle.journal_printer.specs.declared.detail.Detail.TheVariants as detailed
use Rattle.written_logs.specs.Written.{AreShort, Loads, numbered}
use Rattle.written_logs.proofs.Dots.{timedot_plain}
use Rattle.written_logs.proofs.Sessions.{timeclock_plain}
use Rattle.written_logs.proofs.Whole.{plain_loads}

made : (form : LogForm) (log : List ℕ) (txns : List Txn) → log_txns form (contents_of log) ≡ Ok txns → hours_made form log ≡ written (entries_text plain_context txns)
unfolding hours_made
made form log txns is = ap hours_outcome is

pub told : (day : ℕ) (year : Option ℕ) (form : LogForm) (log : List ℕ) (txns : List Txn) → log_txns form (contents_of log) ≡ Ok txns
    → judge day year (works.Hours form) log ≡ Ok (written (entries_text plain_context txns))
told day year form log txns is = ap (λ (o : Outcome). Ok o) (made form log txns is)

pub loads : (year : Option ℕ) (form : LogForm) (log : List ℕ) (txns : List Txn)
    → length log ≤ 2 ^ 24 → log_txns form (contents_of log) ≡ Ok txns → AreShort (entry_shape plain_context) detailed.Written txns
    → Loads year (entries_text plain_context txns) (numbered 1 txns)
loads year forms.Clock log txns size is short =
    plain_loads (entry_shape plain_context) detailed.Written year txns solves_loads (λ value. refl) (timeclock_plain log size txns is) short
loads year forms.Dot log txns size is short =
    plain_loads (entry_shape plain_context) detailed.Written year txns solves_loads (λ value. refl) (timedot_plain log size txns is) short
