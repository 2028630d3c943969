use Rattle.std.proofs.Common.{◌≡◌, [], get_or, sym, ap, ◌∙◌, arith}
use Rattle.report_cells.specs.Report.{seen}
use Rattle.balance_rows.proofs.TreesLaws.{seen_at}
use Rattle.budget_layout.proofs.cell.goal_at.Goals as goal

pub returns-in-Some : goal.returns-in-Some
returns-in-Some c =
    let here : c.in-Some.goal.now ≡ get_or c.args.goals.now c.args.at [] = c.in-Some.ensures.lookup.4 (omega arith) [] in
    ap seen (c.entries.ensures.value ∙ here) ∙ sym (seen_at c.args.goals.now c.args.at)

pub returns-in-None : goal.returns-in-None
returns-in-None c =
    let none : [] ≡ get_or c.args.goals.now c.args.at [] = c.in-None.ensures.lookup.4 (omega arith) [] in
    ap seen none ∙ sym (seen_at c.args.goals.now c.args.at)
