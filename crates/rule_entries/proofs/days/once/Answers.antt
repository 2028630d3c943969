use Rattle.std.proofs.Common.{ℕ, [], ◌∷◌, ap, arith}
use Rattle.rule_entries.proofs.Recurring.{one_day, start_itself}
use Rattle.rule_entries.proofs.days.once.Goals as goal

pub returns : goal.returns
returns c = record {
  seen = ap (λ (n : ℕ). n ∷ []) (start_itself c.args.day.0);
  days = record {
    start = c.requires;
    few = omega arith;
    each = λ at inside. one_day c.args.day.0 at c.requires inside;
  };
}
