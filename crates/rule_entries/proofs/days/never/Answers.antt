use Rattle.std.proofs.Common.{refl, arith}
use Rattle.rule_entries.proofs.days.never.Goals as goal

pub returns : goal.returns
returns c = record {
  seen = refl;
  days = record {
    start = (omega arith, omega arith);
    few = omega arith;
    each = λ at inside. absurd (omega (arith, inside));
  };
}
