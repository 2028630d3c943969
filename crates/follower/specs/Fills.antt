-- How bytes are read on.
use Rattle.std.specs.Prelude.{◌≡◌, ◌≤◌, ℕ, List, [], ◌++◌, length, take, drop, Option, Some, IfSome}
use Rattle.hl_base.specs.Causes.{Rose}
use Rattle.follower.specs.declared.fault.FrameFault.{FrameFault}
use Rattle.follower.specs.declared.fault.FrameFault.TheVariants.{ReadFault, Cut, BadFrame, TooLong, Memory}
use Rattle.follower.specs.Heads.{FrameRefused}

-- what was there and what was left are what is there and what is left, where that is told
abbrev pub FillsOn : Option (List ℕ) → Option (List ℕ) → List ℕ → List ℕ → Type 0
FillsOn left left_then bytes bytes_then = IfSome left (λ all. (rest : List ℕ) × (left_then ≡ Some rest) × (bytes ++ all ≡ bytes_then ++ rest))

-- some front of what was left is behind what was there, where that is told; none is the end
abbrev pub ReadsOn : Option (List ℕ) → Option (List ℕ) → List ℕ → List ℕ → Type 0
ReadsOn left left_then bytes bytes_then =
    IfSome left (λ all. (n : ℕ) × (n ≤ length all) × (bytes_then ≡ bytes ++ take n all) × (left_then ≡ Some (drop n all)) × (n ≡ 0 → all ≡ []))

-- nothing is left, where it was told what was
abbrev pub Ends : Option (List ℕ) → Option (List ℕ) → Type 0
Ends left left_then = IfSome left (λ all. left_then ≡ Some [])

-- a read failed, and the count of faults rose; or memory ran out
abbrev pub ReadRefused : ℕ → ℕ → FrameFault → Type 0
ReadRefused before now ReadFault = Rose before now
ReadRefused before now Memory = Unit {0}
ReadRefused before now (Cut had) = ⊥
ReadRefused before now (BadFrame kind) = ⊥
ReadRefused before now (TooLong said limit) = ⊥

-- why no frame was read of what a source had left
abbrev pub NextRefused : Option (List ℕ) → ℕ → ℕ → FrameFault → Type 0
NextRefused left before now ReadFault = Rose before now
NextRefused left before now Memory = Unit {0}
NextRefused left before now (Cut had) = IfSome left (λ bytes. FrameRefused bytes (Cut had))
NextRefused left before now (BadFrame kind) = IfSome left (λ bytes. FrameRefused bytes (BadFrame kind))
NextRefused left before now (TooLong said limit) = IfSome left (λ bytes. FrameRefused bytes (TooLong said limit))
