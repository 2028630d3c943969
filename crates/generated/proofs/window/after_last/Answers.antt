use Rattle.std.proofs.Common.{◌+◌, sym, ap, ◌∙◌, arith}
use Rattle.std.specs.Option.{option_map}
use Rattle.generated.specs.Windows.{day_after, last_day_of}
use Rattle.generated.proofs.Days.{next_day}
use Rattle.generated.proofs.window.after_last.Goals as goal

pub returns-in-Some : goal.returns-in-Some
returns-in-Some c =
    next_day c.in-Some.day (last_day_of c.args.txns.now) (c.min.result + 1) c.in-Some.ensures (omega (arith, c.min.ensures))

pub returns-in-None : goal.returns-in-None
returns-in-None c = ap (option_map day_after) (sym c.in-None.is ∙ c.last_day.ensures)
