use Rattle.std.proofs.Common.{◌≡◌, ◌<◌, List, [], ◌∷◌, ◌++◌, length, map, take, append_assoc, Some, sym, ap, ◌∙◌, arith}
use Rattle.report_cells.specs.Report.{seen}
use Rattle.report_cells.specs.Taken.{Taken}
use Rattle.report_values.specs.Spread.{summed}
use Rattle.report_values.proofs.Spreading.{cell_more}
use Rattle.report_values.proofs.spread.add_cell.Goals as goal

pub loop-symbol-preserved : goal.loop-symbol-preserved
loop-symbol-preserved c =
    let within : c.loop-symbol.symbol-index < length c.entries-symbol-items.result.now = omega arith in
    c.in_ok-push.ensures.items
    ∙ ap (λ (ts : List Taken). ts ++ record { account = c.args.account.now; day = c.args.number; amount = Some (c.loop-symbol-item.result.0, c.trimmed.result) } ∷ []) c.loop-symbol.invariant
    ∙ append_assoc c.args.takings.now.items (map (summed c.args.account.now c.args.number) (seen (take c.loop-symbol.symbol-index c.entries-symbol-items.result.now))) (record { account = c.args.account.now; day = c.args.number; amount = Some (c.loop-symbol-item.result.0, c.trimmed.result) } ∷ [])
    ∙ ap (λ (ts : List Taken). c.args.takings.now.items ++ ts)
    (cell_more c.args.account.now c.args.number c.entries-symbol-items.result.now c.loop-symbol.symbol-index c.loop-symbol-item.result c.trimmed.result within c.loop-symbol-item.is c.trimmed.ensures.shortest)
