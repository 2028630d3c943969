use Rattle.std.proofs.Common.{◌≡◌, take, drop}
use Rattle.std.specs.List.{AllZip}
use Rattle.reached_walk.specs.Notes.{Passes}
use Rattle.reached_walk.proofs.change.pass_each.Given as goal

-- those so far came past the place, and the others are as before
abbrev pub invariant-loop-change : goal.invariant-loop-change
invariant-loop-change l = record {
  passed : AllZip (Passes l.watchers l.spot) (take l.change-index l.fn.changes) (take l.change-index l.changes);
  rest : drop l.change-index l.changes ≡ drop l.change-index l.fn.changes;
}
