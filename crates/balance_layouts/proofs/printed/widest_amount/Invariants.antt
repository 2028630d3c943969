use Rattle.std.proofs.Common.{◌≡◌, drop}
use Rattle.report_table.specs.Cells.{widest}
use Rattle.balance_layouts.proofs.printed.widest_amount.Given as goal

abbrev pub invariant-loop-amount : goal.invariant-loop-amount
invariant-loop-amount l = widest l.columns (drop l.amount-index l.amounts) ≡ widest l.fn.least l.amounts
