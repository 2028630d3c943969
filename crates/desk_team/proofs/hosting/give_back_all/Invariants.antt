use Rattle.shared_desk.specs.Stays.{kit_told}
use Rattle.desk_team.specs.Hostings.{TakesAll}
use Rattle.desk_team.proofs.hosting.give_back_all.Given as goal

-- each kit so far came back
abbrev pub invariant-loop-kit : goal.invariant-loop-kit
invariant-loop-kit g l = record {
  can : (goal.iterator-loop-kit g).can_next l.kit-iterator;
  finite : (goal.iterator-loop-kit g).is_finite l.kit-iterator;
  taken : TakesAll (kit_told g.H.Door.Door g.H.Clock.Clock g.H.Maker.Maker) (g.H.House.told l.fn.house) (g.H.House.told l.house) l.yielded;
}
