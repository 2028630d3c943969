-- Plain cells and then their values.
use Rattle.std.proofs.Common.{◌≡◌, ℕ, ℤ, ◌<◌, ◌^◌, List, length, Option, Some, None, refl, sym, ap, subst, ◌∙◌}
use Rattle.std.specs.List.{AllByRecursion}
use Rattle.hl_time.specs.declared.spans.Span.{Span}
use Rattle.report_cells.specs.Bounds.{first_out}
use Rattle.report_cells.specs.Follows.{Follow}
use Rattle.report_cells.specs.Report.{rows_in}
use Rattle.report_cells.specs.Taken.{Taken}
use Rattle.report_cells.specs.declared.cells.CellRow.{CellRow}
use Rattle.report_cells.specs.declared.cells.Cells.{Cells}
use Rattle.report_values.specs.Cells.{Planned, first_cell, plain_rows, fitting, first_on, rows_of}
use Rattle.report_values.specs.Refusals.{lesser}
use Rattle.report_values.proofs.Leaving.{all_fit}
use Rattle.report_values.proofs.Spreading.{whole_rows}

module _ (plan : Planned) (ts : List Taken) (cells : Cells) (columns : cells.columns ≡ plan.columns) (rows : rows_of cells ≡ plain_rows plan ts) where
  pub some_columns : Follow plan.columns → 0 < length cells.columns
  some_columns follow = subst (λ (cs : List Span). 0 < length cs) (sym columns) follow.some

  pub few_columns : length plan.columns < 2 ^ 32 → length cells.columns < 2 ^ 32
  few_columns few = subst (λ (cs : List Span). length cs < 2 ^ 32) (sym columns) few

  pub few_cells : length plan.columns < 2 ^ 32 → AllByRecursion (λ (row : CellRow). length row.cells < 2 ^ 32) cells.rows
  few_cells few = whole_rows (λ n. n < 2 ^ 32) plan.reach plan.columns ts cells.rows few rows

module _ (plan : Planned) (ts : List Taken) where
  -- where all can be summed, what is refused is what their values refuse
  pub refused_alone : (rows : List (List ℕ × List (List (List ℕ × ℤ)))) → first_out ts ≡ None → rows ≡ plain_rows plan ts → first_cell plan.market plan.days rows ≡ first_on plan ts
  refused_alone rows none is =
      ap (first_cell plan.market plan.days) is
      ∙ ap (λ (us : List Taken). first_cell plan.market plan.days (plain_rows plan us)) (sym (all_fit ts none))
      ∙ ap (λ (o : Option (List ℕ)). lesser o (first_cell plan.market plan.days (plain_rows plan (fitting ts)))) (sym none)

  -- else the lesser of both
  pub refused_beside : (rows : List (List ℕ × List (List (List ℕ × ℤ)))) (first : List ℕ) (other : Option (List ℕ)) → first_out ts ≡ Some first → rows ≡ plain_rows plan (fitting ts) → first_cell plan.market plan.days rows ≡ other → lesser (Some first) other ≡ first_on plan ts
  refused_beside rows first other some is told =
      ap (lesser (Some first)) (sym told ∙ ap (first_cell plan.market plan.days) is)
      ∙ ap (λ (o : Option (List ℕ)). lesser o (first_cell plan.market plan.days (plain_rows plan (fitting ts)))) (sym some)
