use Rattle.std.proofs.Common.{take, drop}
use Rattle.balance_rows.proofs.KeptLaws.{IsAdding}
use Rattle.balance_rows.proofs.sums.add_cell.Given as goal

abbrev pub invariant-loop-symbol : goal.invariant-loop-symbol
invariant-loop-symbol l = IsAdding l.initial.sums l.sums (take l.symbol-index l.symbol-items) (drop l.symbol-index l.symbol-items)
