-- What a run of `serve` needs so that no call fails.
use Rattle.std.specs.Prelude.{ℕ, ◌-◌, ◌^◌, ◌<◌, ◌≤◌}
use Rattle.hl_base.specs.declared.outside.Sink.{Ghosts as Outputs}
use Rattle.desk_team.specs.Houses.{HouseTold, IsFaultless}

-- an output takes each number of bytes up to this one
abbrev pub HasRoomTo : {O : Type 0} → Outputs O → O → ℕ → Type 0
HasRoomTo o out most = (n : ℕ) → n ≤ most → o.HasRoom out n

-- the most bytes of a line that says why a store that was opened wasn't served
abbrev pub most_of_a_fault : ℕ
most_of_a_fault = 18

-- A house hands out a kit for each of so many workers, and no call of it or of a door fails before. Its count isn't at its last value.
pub record IsSound {A : Type 0} (house : HouseTold A) (workers : ℕ) : Type 0 where
  pub faultless : IsFaultless house workers
  pub counts : house.faults < 2 ^ 64 - 1
