-- What is said of a source that was followed, and why one wasn't.
use Rattle.std.specs.Prelude.{ℕ, List, [], ◌++◌, codes}
use Rattle.std.specs.Fmt.{decimal}
use Rattle.error_lines.specs.Lines as lines
use Rattle.error_lines.specs.Lines.{ended}
use Rattle.follower.specs.declared.fault.FrameFault.{FrameFault}
use Rattle.follower.specs.declared.fault.FrameFault.TheVariants.{ReadFault, Cut, BadFrame, TooLong, Memory}
use Rattle.store_text.specs.Refusals.{line_of, status_of}
use Rattle.store_following.specs.declared.refusal.FollowRefusal.{FollowRefusal}
use Rattle.store_following.specs.declared.refusal.FollowRefusal.TheVariants as refusal
use Rattle.store_following.specs.declared.refusal.Followed.{Followed}

-- a line with a text and a number more
abbrev pub with_count : List ℕ → List ℕ → ℕ → List ℕ
with_count line front number = line ++ front ++ decimal number

-- the revision, and how many frames were taken, were old, and stood behind a gap
abbrev pub followed_line : Followed → List ℕ
followed_line followed =
    ended (with_count (with_count (with_count (with_count [] (codes "revision ") followed.revision) (codes ", taken ") followed.tally.taken)
    (codes ", old ") followed.tally.old) (codes ", gaps ") followed.tally.gaps)

abbrev pub unread_line : FrameFault → List ℕ
unread_line ReadFault = lines.read_fault
unread_line (Cut had) = lines.frame (codes "cut")
unread_line (BadFrame kind) = lines.frame_kind kind
unread_line (TooLong said limit) = lines.past_limit said limit
unread_line Memory = lines.memory

abbrev pub unread_status : FrameFault → ℕ
unread_status ReadFault = 3
unread_status (Cut had) = 1
unread_status (BadFrame kind) = 1
unread_status (TooLong said limit) = 7
unread_status Memory = 6

-- the line of a refusal, of a replica of this name
abbrev pub refusal_line : List ℕ → FollowRefusal → List ℕ
refusal_line name (refusal.Store r) = line_of name r
refusal_line name (refusal.Unread fault) = unread_line fault
refusal_line name refusal.NoSnapshot = lines.frame (codes "no snapshot")
refusal_line name refusal.Payload = lines.frame (codes "payload")

-- and its exit status
abbrev pub refusal_status : FollowRefusal → ℕ
refusal_status (refusal.Store r) = status_of r
refusal_status (refusal.Unread fault) = unread_status fault
refusal_status refusal.NoSnapshot = 1
refusal_status refusal.Payload = 1
