use Rattle.std.proofs.Common.{arith}
use Rattle.hl_num.specs.Decimal.{units_of}
use Rattle.balance_rows.proofs.Shortest.{shortest-is}
use Rattle.budget_layout.proofs.percent.shortened.Goals as goal

pub returns : goal.returns
returns c =
    shortest-is c.trimmed.result (units_of c.args.value)
    (omega (arith, c.trimmed.ensures.places, c.decimals-places.ensures.bound, c.decimals-places.ensures.value))
    c.trimmed.ensures.trimmed c.trimmed.ensures.value
