use Rattle.std.proofs.Common.{◌≡◌}
use Rattle.std.specs.List.{flat_map}
use Rattle.entry_balance.specs.Fill.{filled_posting}
use Rattle.entry_balance.proofs.fill.fill_anew.Given as goal

abbrev pub invariant-loop-posting : goal.invariant-loop-posting
invariant-loop-posting l = record {
  can : (goal.iterator-loop-posting).can_next l.posting-iterator;
  finite : (goal.iterator-loop-posting).is_finite l.posting-iterator;
  filled : l.filled.items ≡ flat_map (λ p. filled_posting l.plan.real.items l.plan.balanced.items l.plan.recorded p p.amount) l.yielded;
}
