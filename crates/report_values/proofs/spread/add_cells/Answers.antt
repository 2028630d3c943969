use Rattle.std.proofs.Common.{◌≡◌, ◌<◌, ◌+◌, ℕ, List, [], ◌∷◌, ◌++◌, length, map, take, append_assoc, sym, ap, ◌∙◌, arith}
use Rattle.report_cells.specs.Report.{seen}
use Rattle.report_cells.specs.Taken.{Taken}
use Rattle.report_values.specs.Spread.{summed, cells_from}
use Rattle.report_values.proofs.Spreading.{cells_more}
use Rattle.report_values.proofs.spread.add_cells.Goals as goal

pub loop-number-preserved : goal.loop-number-preserved
loop-number-preserved c =
    let within : c.loop-number.number < length c.args.cells.now = omega arith in
    c.in_ok-add_cell.ensures
    ∙ ap (λ (ts : List Taken). ts ++ map (summed c.args.account.now c.loop-number.number) (seen c.index-cells-number.result)) c.loop-number.invariant
    ∙ append_assoc c.args.takings.now.items (cells_from c.args.account.now 0 (map seen (take c.loop-number.number c.args.cells.now))) (map (summed c.args.account.now c.loop-number.number) (seen c.index-cells-number.result))
    ∙ ap (λ (ts : List Taken). c.args.takings.now.items ++ ts) (cells_more c.args.account.now c.args.cells.now c.loop-number.number c.index-cells-number.result within c.index-cells-number.is)
