use Rattle.std.proofs.Common.{◌<◌, length, arith}
use Rattle.statements.proofs.Behind.{item_before}
use Rattle.statements.proofs.turning.kept_copy.Goals as goal

pub put_last-requires-clause-before : goal.put_last-requires-clause-before
put_last-requires-clause-before c =
    let es = c.entries-entries.result.now in
    let within : c.loop-symbol.symbol-index < length es = omega arith in
    item_before c.args.turn c.args.cell.now es c.loop-symbol.copy c.loop-symbol.symbol-index c.loop-symbol-item.result
    c.entries-entries.ensures.ordered c.entries-entries.ensures.value within c.loop-symbol-item.is c.loop-symbol.invariant
