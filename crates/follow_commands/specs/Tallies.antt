-- How often frames were taken.
use Rattle.std.specs.Prelude.{ℕ, ◌+◌, ◌-◌, ◌^◌, min, List, [], ◌∷◌, Result, Ok, Err}
use Rattle.follower.specs.declared.fault.Accepted.{Accepted}
use Rattle.follower.specs.declared.fault.Accepted.TheVariants.{Taken, Old, Gap}
use Rattle.follower.specs.declared.fault.FollowFault.{FollowFault}
use Rattle.follower.specs.declared.frame.Frame.{Frame}
use Rattle.follow_commands.specs.declared.tally.Tally.{Tally}

-- one more, at most 2^64 - 1
abbrev pub one_more : ℕ → ℕ
one_more n = min (n + 1) (2 ^ 64 - 1)

-- the counts with the answer to one more frame; a refusal counts nowhere
abbrev pub tallied : Tally → Result Accepted FollowFault → Tally
tallied tally (Ok (Taken revision)) = record { taken = one_more tally.taken; old = tally.old; gaps = tally.gaps }
tallied tally (Ok (Old had got)) = record { taken = tally.taken; old = one_more tally.old; gaps = tally.gaps }
tallied tally (Ok (Gap had got)) = record { taken = tally.taken; old = tally.old; gaps = one_more tally.gaps }
tallied tally (Err fault) = tally

-- those with the answers to frames, of which the last stands first
abbrev pub tally_after : Tally → List (Frame × Result Accepted FollowFault) → Tally
tally_after tally [] = tally
tally_after tally (step ∷ earlier) = tallied (tally_after tally earlier) step.1
