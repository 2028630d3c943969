-- A budget is never untold.
use Rattle.std.proofs.Common.{◌≡◌, ℕ, List, Option, Some, None, Result, Ok, Err, refl, sym, ap, subst, ◌∙◌}
use Rattle.hl_time.specs.declared.spans.Span.{Span}
use Rattle.book.specs.declared.fault.Fault.{Fault}
use Rattle.book.specs.declared.item.Book.{Book}
use Rattle.book.specs.declared.item.Placed.{Placed}
use Rattle.generated.specs.Judged.{judged, unless_too_many}
use Rattle.generated.specs.declared.fault.GenFault.{GenFault}
use Rattle.generated.specs.declared.fault.GenFault.TheVariants as gen_fault
use Rattle.generated.specs.Refusals.{too_many}
use Rattle.report_cells.specs.declared.fault.ReportFault.{ReportFault}
use Rattle.report_sums.specs.Matters.{Matter}
use Rattle.report_commands.specs.declared.fault.WordsFault.TheVariants as words_fault
use Rattle.rule_entries.specs.Counted.{excess_of}
use Rattle.rule_entries.specs.Making.{made_by_day, made_of}
use Rattle.rule_entries.specs.declared.counting.Excess.{Excess}
use Rattle.plan_commands.specs.Columns.{goal_span}
use Rattle.plan_commands.specs.Goals.{budget_of}
use Rattle.plan_commands.specs.Reports.{Report, as_report, beside, budget_by}
use Rattle.plan_commands.specs.declared.fault.PlanFault.{PlanFault}
use Rattle.plan_commands.specs.declared.fault.PlanFault.TheVariants as plan_fault
use Rattle.plan_commands.proofs.Telling.{IsUntold}

-- the fault that is told
fault_in : PlanFault → Report → PlanFault
fault_in other (Ok text) = other
fault_in other (Err fault) = fault

same_fault : (own fault : PlanFault) (r : Report) → r ≡ Err own → r ≡ Err fault → IsUntold fault → IsUntold own
unfolding fault_in
same_fault own fault r is told untold =
    let same : own ≡ fault = ap (λ (q : Report). fault_in fault q) (sym is ∙ told) in
    subst (λ (f : PlanFault). IsUntold f) (sym same) untold

no_report : (made : Result (List ℕ) ReportFault) (fault : PlanFault) → IsUntold fault → as_report made ≡ Err fault → ⊥
no_report (Ok text) fault untold told = cc
no_report (Err own) fault untold told = same_fault (plan_fault.Words (words_fault.Report own)) fault (as_report (Err own)) refl told untold

none_beside : (m : Matter) (columns : List Span) (excess : Option Excess) (goals : Result Book Fault) (fault : PlanFault)
    → IsUntold fault → beside m columns (unless_too_many excess goals) ≡ Err fault → ⊥
none_beside m columns (Some excess) goals fault untold told =
    same_fault (plan_fault.Generated (too_many excess)) fault (beside m columns (Err (too_many excess))) refl told untold
none_beside m columns None (Ok goals) fault untold told = no_report (budget_of m columns goals.txns) fault untold told
none_beside m columns None (Err own) fault untold told =
    same_fault (plan_fault.Generated (gen_fault.Journal own)) fault (beside m columns (Err (gen_fault.Journal own))) refl told untold

pub never_untold : (items : List Placed) (m : Matter) (columns : List Span) (fault : PlanFault)
    → IsUntold fault → budget_by items m columns ≡ Err fault → ⊥
never_untold items m columns fault untold told =
    let span = goal_span columns in
    none_beside m columns (excess_of (made_of span items)) (judged (made_by_day span items)) fault untold told
