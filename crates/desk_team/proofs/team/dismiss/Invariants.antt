use Rattle.std.proofs.Common.{◌≡◌, ◌++◌, map, vec_capacity}
use Rattle.std.specs.Prelude.{All}
use Rattle.turn_lock.specs.Passes.{IsFirst}
use Rattle.std.specs.List.{list_any}
use Rattle.desk_team.specs.Teams.{has_failed, member_of}
use Rattle.desk_team.proofs.Joining.{SawNoMore}
use Rattle.desk_team.proofs.team.dismiss.Given as goal

-- each worker so far was taken in
abbrev pub invariant-loop-worker : goal.invariant-loop-worker
invariant-loop-worker g l = record {
  can : (goal.iterator-loop-worker g).can_next l.worker-iterator;
  finite : (goal.iterator-loop-worker g).is_finite l.worker-iterator;
  first : IsFirst l.turn l.first;
  made : l.first.made ≡ l.fn.first.made;
  mine : l.first.mine ≡ l.fn.first.mine;
  joined : l.first.joined ≡ l.fn.first.joined ++ map member_of l.yielded;
  kits : l.kits.items ≡ map (λ worker. worker.kit) l.yielded;
  failed : l.failed ≡ list_any has_failed l.yielded;
  room : vec_capacity l.kits ≡ vec_capacity l.fn.kits;
  seen : All (SawNoMore l.first.seen) l.yielded;
}
