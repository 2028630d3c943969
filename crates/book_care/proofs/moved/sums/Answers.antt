use Rattle.std.proofs.Common.{sym, subst}
use Rattle.report_cells.specs.Follows.{Follow}
use Rattle.book_care.proofs.Within.{follows}
use Rattle.book_care.proofs.moved.sums.Goals as goal

pub make_cells-requires : goal.make_cells-requires
make_cells-requires c = subst Follow (sym c.in_ok-columns.ensures) follows
