use Rattle.std.proofs.Common.{sym, subst}
use Rattle.std.specs.Str.{IsUtf8}
use Rattle.balance_layouts.proofs.Days.{day_utf8}
use Rattle.balance_layouts.proofs.titles.day_name.Goals as goal

pub unreachable-requires : goal.unreachable-requires
unreachable-requires c = c.in-Err.ensures.cases.0 (subst IsUtf8 (sym c.print_day-digits.ensures) (day_utf8 c.args.day.0 c.requires))
