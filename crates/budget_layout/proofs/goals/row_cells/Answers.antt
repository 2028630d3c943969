use Rattle.std.proofs.Common.{◌≡◌, ℕ, List, [], map, get_or, sym, ap, ◌∙◌, arith}
use Rattle.report_cells.specs.Report.{seen}
use Rattle.report_table.specs.Cells.{Cell}
use Rattle.balance_rows.specs.Rows.{Row}
use Rattle.budget_layout.proofs.Alike.{named_at}
use Rattle.budget_layout.proofs.goals.row_cells.Goals as goal

pub returns-in-Some : goal.returns-in-Some
returns-in-Some c =
    let here : c.in-Some.row.now ≡ get_or c.args.rows.now c.args.at ([], []) = c.in-Some.ensures.lookup.4 (omega arith) ([], []) in
    ap (map seen) c.as_slice.ensures ∙ ap (λ (row : List ℕ × List Cell). map seen row.1) here
    ∙ sym (ap (λ (row : Row). row.1) (named_at c.args.rows.now c.args.at))

pub returns-in-None : goal.returns-in-None
returns-in-None c =
    let none : ([], []) ≡ get_or c.args.rows.now c.args.at ([], []) = c.in-None.ensures.lookup.4 (omega arith) ([], []) in
    ap (λ (row : List ℕ × List Cell). map seen row.1) none ∙ sym (ap (λ (row : Row). row.1) (named_at c.args.rows.now c.args.at))
