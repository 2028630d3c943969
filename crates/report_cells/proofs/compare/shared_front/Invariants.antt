use Rattle.std.proofs.Common.{◌≡◌, ◌*◌, drop}
use Rattle.book.specs.Accounts.{account_cmp}
use Rattle.report_cells.proofs.compare.shared_front.Given as goal

abbrev pub invariant-loop-step : goal.invariant-loop-step
invariant-loop-step l = account_cmp l.left l.right ≡ account_cmp (drop (l.step * 8) l.left) (drop (l.step * 8) l.right)
