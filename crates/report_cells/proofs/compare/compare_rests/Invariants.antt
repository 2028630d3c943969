use Rattle.std.proofs.Common.{◌≡◌, drop}
use Rattle.book.specs.Accounts.{account_cmp}
use Rattle.report_cells.proofs.compare.compare_rests.Given as goal

abbrev pub invariant-loop-i : goal.invariant-loop-i
invariant-loop-i l = account_cmp l.left l.right ≡ account_cmp (drop l.i l.left) (drop l.i l.right)
