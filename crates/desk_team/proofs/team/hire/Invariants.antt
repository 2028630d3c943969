use Rattle.std.proofs.Common.{◌≡◌, length, vec_capacity}
use Rattle.turn_lock.specs.Passes.{first_pass}
use Rattle.desk_team.specs.Teams.{hired}
use Rattle.desk_team.proofs.team.hire.Given as goal

-- each kit so far has its pass
abbrev pub invariant-loop-kit : goal.invariant-loop-kit
invariant-loop-kit g l = record {
  can : (goal.iterator-loop-kit g).can_next l.kit-iterator;
  finite : (goal.iterator-loop-kit g).is_finite l.kit-iterator;
  first : l.first ≡ record (first_pass l.turn) { made = length l.yielded };
  workers : l.workers.items ≡ hired l.turn 0 l.yielded;
  room : vec_capacity l.workers ≡ vec_capacity l.fn.workers;
}
