-- The calls that a disk in memory was given, the newest first, and what a crash leaves of them: all writes and cuts
-- that came before a call, and a front of that call's bytes.
use Rattle.std.specs.Prelude.{◌≡◌, ◌⊎◌, ℕ, ◌≤◌, List, [], ◌∷◌, length, take, Option, None, Some, if◌then◌else◌, nat_le, ◌-◌, drop}
use Rattle.std.specs.Option.{ForSome}
use Rattle.std.proofs.Common.{inl, inr, arith}
use Rattle.hl_base.specs.Disk.{overwritten}

-- a call: one that changed nothing, a write of bytes at a place, a cut to a length, or a sync
pub data Step : Type 0 where
  Still : Step
  Wrote : ℕ → List ℕ → Step
  Shortened : ℕ → Step
  Synced : Step

-- a file's first bytes, and the calls since
pub record Recorded : Type 0 where
  pub first : List ℕ
  pub steps : List Step

-- what a call makes of a file, where this front of its bytes has reached it
abbrev pub stepped_front : List ℕ → Step → List ℕ
stepped_front file (Wrote at front) = overwritten file at front
stepped_front file _ = file

-- a call of which so many bytes are left
abbrev pub front_of : Step → ℕ → Step
front_of (Wrote at bytes) count = Wrote at (take count bytes)
front_of step count = step

-- the file after a call
abbrev pub stepped : List ℕ → Step → List ℕ
stepped file (Wrote at bytes) = overwritten file at bytes
stepped file (Shortened len) = take len file
stepped file _ = file

-- the file after the calls
abbrev pub content : List ℕ → List Step → List ℕ
content first [] = first
content first (step ∷ older) = stepped (content first older) step

-- what a crash may leave after the calls: since the last sync, any front of what they did
abbrev pub MayLeave : List ℕ → List Step → List ℕ → Type 0
MayLeave first [] c = c ≡ first
MayLeave first (Still ∷ older) c = MayLeave first older c
MayLeave first (Wrote at bytes ∷ older) c =
    MayLeave first older c ⊎ ((count : ℕ) × (count ≤ length bytes) × (c ≡ overwritten (content first older) at (take count bytes)))
MayLeave first (Shortened len ∷ older) c = MayLeave first older c ⊎ (c ≡ take len (content first older))
MayLeave first (Synced ∷ older) c = c ≡ content first older

-- what a crash may have left after that many calls, or inside or after a later one
abbrev pub LeftSince : List ℕ → List Step → ℕ → List ℕ → Type 0
LeftSince first [] t c = MayLeave first [] c
LeftSince first (step ∷ older) t c = MayLeave first (step ∷ older) c ⊎ ((t ≤ length older) × LeftSince first older t c)

-- the file as a crash inside the newest call leaves it, where this many of the call's bytes have reached it
abbrev pub at_crash : List ℕ → List Step → ℕ → List ℕ
at_crash first [] count = first
at_crash first (step ∷ older) count = stepped_front (content first older) (front_of step count)

-- of what a disk may have recorded
abbrev pub MayLeaveOf : Option Recorded → List ℕ → Type 0
MayLeaveOf None c = Unit {0}
MayLeaveOf (Some r) c = MayLeave r.first r.steps c

abbrev pub LeftSinceOf : Option Recorded → ℕ → List ℕ → Type 0
LeftSinceOf None t c = Unit {0}
LeftSinceOf (Some r) t c = LeftSince r.first r.steps t c

abbrev pub moment_of : Option Recorded → ℕ
moment_of None = 0
moment_of (Some r) = length r.steps

-- with a call more
abbrev pub added : Option Recorded → Step → Option Recorded
added None step = None
added (Some r) step = Some (record { first = r.first; steps = step ∷ r.steps })

-- the reach up to which a disk without a record and without calls that are to fail fails none
abbrev pub unfailing_room : Option Recorded → List ℕ → ℕ → Option ℕ
unfailing_room None [] room = Some room
unfailing_room None (n ∷ fails) room = None
unfailing_room (Some r) fails room = None

-- the laws of a disk
pub counts_now : (o : Option Recorded) (t : ℕ) (c : List ℕ) → t ≤ moment_of o → MayLeaveOf o c → LeftSinceOf o t c
counts_now None t c le now = tt
counts_now (Some r) t c le now = since r.first r.steps t c now
  where
    since : (first : List ℕ) (steps : List Step) (t : ℕ) (c : List ℕ) → MayLeave first steps c → LeftSince first steps t c
    since first [] t c now = now
    since first (step ∷ older) t c now = inl now

pub only_now : (o : Option Recorded) (c : List ℕ) → LeftSinceOf o (moment_of o) c → MayLeaveOf o c
only_now None c left = tt
only_now (Some r) c left = last r.first r.steps c left
  where
    last : (first : List ℕ) (steps : List Step) (c : List ℕ) → LeftSince first steps (length steps) c → MayLeave first steps c
    last first [] c left = left
    last first (step ∷ older) c (inl now) = now
    last first (step ∷ older) c (inr before) = let le : length (step ∷ older) ≤ length older = before.0 in absurd (omega arith)

-- the file reads as its record has it
pub record IsReplayed (o : Option Recorded) (text : List ℕ) : Type 0 where
  pub same : ForSome o (λ r. content r.first r.steps ≡ text)

-- the file as a crash inside a call leaves it, where at most this many of the call's bytes have reached it; calls are
-- counted from 1, and a number past the last one gives the file as it reads
abbrev pub stopped_text : List ℕ → List Step → ℕ → ℕ → List ℕ
stopped_text first steps call count =
    if nat_le call (length steps) then at_crash first (drop (length steps - call) steps) count else content first steps

-- the same where the disk may have no record
abbrev pub stopped_text_of : Option Recorded → List ℕ → ℕ → ℕ → List ℕ
stopped_text_of None text call count = text
stopped_text_of (Some r) text call count = stopped_text r.first r.steps call count
