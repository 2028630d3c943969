use Rattle.std.proofs.Common.{arith, rules}
use Rattle.hl_num.proofs.DecimalLemmas.{pow_ten_below}
use Rattle.hl_num.proofs.RoundingLemmas.{pow_ten_positive}
use Rattle.budget_layout.proofs.percent.power_of_ten.Goals as goal

pub pow-requires : goal.pow-requires
pow-requires c = omega (arith, pow_ten_below c.from.result (omega arith))

pub returns : goal.returns
returns c = record {
  value = search rules;
  above = rw c.pow.ensures (omega (arith, pow_ten_positive c.from.result));
}
