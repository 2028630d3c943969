-- Why a source isn't followed.
use Rattle.std.specs.Prelude.{ℕ, Result, Ok, Err}
use Rattle.follow_commands.specs.declared.following.Stop.{Stop}
use Rattle.follow_commands.specs.declared.following.Stop.TheVariants.{Unread, Refused}
use Rattle.follow_commands.specs.declared.tally.Tally.{Tally}
use Rattle.follower.specs.declared.fault.FollowFault.{FollowFault}
use Rattle.follower.specs.declared.fault.FollowFault.TheVariants as fault
use Rattle.store_text.specs.Refusals.{unopened}
use Rattle.store_text.specs.declared.refusal.StoreRefusal.TheVariants as store_refusal
use Rattle.store_following.specs.declared.refusal.FollowRefusal.{FollowRefusal}
use Rattle.store_following.specs.declared.refusal.FollowRefusal.TheVariants as refusal
use Rattle.store_following.specs.declared.refusal.Followed.{Followed}

-- that of a frame
abbrev pub of_fault : FollowFault → FollowRefusal
of_fault (fault.Store cause) = refusal.Store (unopened cause)
of_fault (fault.NotASnapshot kind) = refusal.NoSnapshot
of_fault (fault.BadPayload revision) = refusal.Payload
of_fault fault.Memory = refusal.Store store_refusal.Memory

-- that of what stopped it
abbrev pub of_stop : Stop → FollowRefusal
of_stop (Unread cause) = refusal.Unread cause
of_stop (Refused cause) = of_fault cause

-- what is told at the end of a source, or of what stopped it
abbrev pub told_of : {T : Type 0} → Result T Stop → ℕ → Tally → Result Followed FollowRefusal
told_of (Ok done) revision tally = Ok (record { revision = revision; tally = tally })
told_of (Err stop) revision tally = Err (of_stop stop)
