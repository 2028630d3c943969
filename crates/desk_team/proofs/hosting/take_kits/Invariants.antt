use Rattle.std.proofs.Common.{◌≡◌, ◌+◌, ◌≤◌, length, vec_capacity}
use Rattle.std.specs.Prelude.{All}
use Rattle.shared_desk.specs.Stays.{kit_told}
use Rattle.desk_team.specs.Hostings.{FreshBy, Takes}
use Rattle.desk_team.proofs.hosting.take_kits.Given as goal

-- so many kits were handed out
abbrev pub invariant-loop-taken : goal.invariant-loop-taken
invariant-loop-taken g l = record {
  takes : Takes (g.H.House.told l.fn.house) (g.H.House.told l.house) l.kits.items;
  many : length l.kits.items ≡ l._taken;
  faults : (g.H.House.told l.house).faults ≡ (g.H.House.told l.fn.house).faults;
  fresh : All (FreshBy (kit_told g.H.Door.Door g.H.Clock.Clock g.H.Maker.Maker)) l.kits.items;
  room : vec_capacity l.kits ≡ vec_capacity l.fn.kits;
  sound : l.fn.count ≤ (g.H.House.told l.fn.house).faultless
      → ((g.H.House.told l.fn.house).faultless ≡ (g.H.House.told l.house).faultless + l._taken)
      × All (λ kit. g.H.Door.Door.IsSound kit.door) l.kits.items;
}
