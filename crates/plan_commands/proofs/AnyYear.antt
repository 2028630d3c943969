-- A text that loads without a year before it has the same report with any, with what its rules make too.
use Rattle.std.proofs.Common.{◌≡◌, ℕ, List, [], Option, Some, None, Result, Ok, Err, IfOk, refl, ap}
use Rattle.hl_base.specs.Items.{items_of}
use Rattle.book.specs.declared.fault.Fault.{Fault}
use Rattle.book.specs.declared.item.Placed.{Placed}
use Rattle.journal_reader.specs.Items.{items_in}
use Rattle.report_commands.proofs.AnyYear.{Keeps, from_kept}
use Rattle.report_commands.specs.declared.asked.Asked.{Asked}
use Rattle.plan_commands.specs.Reports.{Report, report_over, report_read}

same_ok : (r s : Result Report Fault) → s ≡ r → IfOk r (λ report. s ≡ Ok report)
same_ok (Ok report) s e = e
same_ok (Err fault) s e = tt

by_items : (asked : Asked) (day : ℕ) (r s : Result (List Placed) Fault) → Keeps r s
    → IfOk (report_read asked day r) (λ report. report_read asked day s ≡ Ok report)
by_items asked day (Ok items) s h = same_ok (report_read asked day (Ok items)) (report_read asked day s)
    (ap (λ (q : Result (List Placed) Fault). report_read asked day q) (h items refl))
by_items asked day (Err fault) s h = tt

pub any_year : (asked : Asked) (day y : ℕ) (text : List ℕ)
    → IfOk (report_over asked day None text) (λ report. report_over asked day (Some y) text ≡ Ok report)
any_year asked day y text = by_items asked day (items_in None text) (items_in (Some y) text) (from_kept y [] text (items_of text))
