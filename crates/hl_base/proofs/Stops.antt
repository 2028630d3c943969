-- What a stopped disk reads as is among what a crash may have left.
use Rattle.std.proofs.Common.{◌≡◌, ◌⊎◌, inl, inr, ℕ, zero, suc, ◌-◌, ◌<◌, ◌≤◌, min, List, [], ◌∷◌, length, take, drop, refl, sym, ap, subst, arith, length-drop, Option, None, Some}
use Rattle.std.proofs.lemmas.Bool.{cases_lt}
use Rattle.std.proofs.lemmas.List.{take_min}
use Rattle.std.proofs.lemmas.Bool.Decides.{nat_tests}
use Rattle.hl_base.specs.Disk.{overwritten}
use Rattle.hl_base.specs.History.{Step, Still, Wrote, Shortened, Synced, Recorded, content, MayLeave, LeftSince, LeftSinceOf, at_crash, stopped_text, stopped_text_of}
use Rattle.hl_base.proofs.DiskLaws.{now_may}

-- a crash inside the newest call
crash_may : (first : List ℕ) (steps : List Step) (count : ℕ) → MayLeave first steps (at_crash first steps count)
crash_may first [] count = refl
crash_may first (Still ∷ older) count = now_may first older
crash_may first (Wrote at bytes ∷ older) count =
    inr (min count (length bytes), omega arith, ap (λ (l : List ℕ). overwritten (content first older) at l) (sym (take_min count bytes)))
crash_may first (Shortened len ∷ older) count = inl (now_may first older)
crash_may first (Synced ∷ older) count = refl

-- what may be left now may have been left since
left_now : (first : List ℕ) (steps : List Step) (t : ℕ) (c : List ℕ) → MayLeave first steps c → LeftSince first steps t c
left_now first [] t c now = now
left_now first (step ∷ older) t c now = inl now

-- what was left before the newest calls
left_before : (first : List ℕ) (steps : List Step) (newest t : ℕ) (c : List ℕ) → t ≤ length steps - newest
    → LeftSince first (drop newest steps) t c → LeftSince first steps t c
left_before first [] zero t c le left = left
left_before first [] (suc n) t c le left = left
left_before first (step ∷ older) zero t c le left = left
left_before first (step ∷ older) (suc n) t c le left = inr (omega arith, left_before first older n t c (omega arith) left)

stopped_left : (first : List ℕ) (steps : List Step) (call count t : ℕ) → t < call → LeftSince first steps t (stopped_text first steps call count)
stopped_left first steps call count t before =
    elim (cases_lt (length steps) call) [
      | inl past ↦
          let whole : stopped_text first steps call count ≡ content first steps = grind (arith, nat_tests) in
          subst (λ (c : List ℕ). LeftSince first steps t c) (sym whole) (left_now first steps t (content first steps) (now_may first steps))
      | inr inside ↦
          let newest = length steps - call in
          let cut : stopped_text first steps call count ≡ at_crash first (drop newest steps) count = grind (arith, nat_tests) in
          let left = left_now first (drop newest steps) t (at_crash first (drop newest steps) count) (crash_may first (drop newest steps) count) in
          subst (λ (c : List ℕ). LeftSince first steps t c) (sym cut) (left_before first steps newest t (at_crash first (drop newest steps) count) (omega arith) left)
    ]

pub stopped_among : (log : Option Recorded) (text : List ℕ) (call count t : ℕ) → t < call → LeftSinceOf log t (stopped_text_of log text call count)
stopped_among None text call count t before = tt
stopped_among (Some r) text call count t before = stopped_left r.first r.steps call count t before
