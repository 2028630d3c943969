-- What a house tells that tells nothing of its kits.
use Rattle.std.specs.Prelude.{ℕ, None}
use Rattle.desk_team.specs.Houses.{Bound, HouseTold}

-- its binds and its counts alone
abbrev pub silent : {A : Type 0} → Bound → ℕ → ℕ → HouseTold A
silent bound faults refusals = record { coming = None; given = None; back = None; faultless = 0; bound = bound; faults = faults; refusals = refusals }
