use Rattle.std.proofs.Common.{◌<◌, length, arith}
use Rattle.balance_rows.proofs.KeptLaws.{entry_added}
use Rattle.balance_rows.proofs.sums.add_cell.Goals as goal

pub loop-symbol-preserved : goal.loop-symbol-preserved
loop-symbol-preserved c =
    let within : c.loop-symbol.symbol-index < length c.entries-symbol-items.result.now = omega arith in
    entry_added c.args.sums.now c.loop-symbol.sums c.entries-symbol-items.result.now c.loop-symbol.symbol-index c.loop-symbol-item.result within c.loop-symbol-item.is
    c.add_entry.new.sums c.in_ok-add_entry.ensures c.loop-symbol.invariant
