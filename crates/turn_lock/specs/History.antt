-- Histories: which are legal, and what stands in them under one number.
use Rattle.std.specs.Prelude.{◌≡◌, ◌≢◌, ◌==◌, ◌<◌, ℕ, List, [], ◌∷◌, length, All, ltb, if◌then◌else◌}
use Rattle.turn_lock.specs.declared.known.Entered.{Entered}
use Rattle.turn_lock.specs.declared.known.Member.{Member}

module _ {S E : Type 0} (leads : S → E → S → Type 0) where
  -- the history leads from one state to the other, entry by entry
  abbrev pub Leads : S → List (Entered E) → S → Type 0
  Leads s [] t = s ≡ t
  Leads s (x ∷ xs) t = (m : S) × leads s x.entry m × Leads m xs t

module _ {E : Type 0} where
  -- the entries under the number n, in their order
  abbrev pub made_by : ℕ → List (Entered E) → List E
  made_by n [] = []
  made_by n (x ∷ xs) = if x.by == n then x.entry ∷ made_by n xs else made_by n xs

  -- the number isn't that of one of these passes
  abbrev pub IsNone : ℕ → List (Member E) → Type 0
  IsNone n joined = All (λ m. m.number ≢ n) joined

  -- the longer of two lists, and the first of two that are as long
  abbrev pub longer : List (Entered E) → List (Entered E) → List (Entered E)
  longer xs ys = if ltb (length xs) (length ys) then ys else xs

-- The history has what the first pass made, what each of the joined passes made, and nothing else
pub record IsOf {E : Type 0} (history : List (Entered E)) (mine : List E) (joined : List (Member E)) : Type 0 where
  pub first : made_by 0 history ≡ mine
  pub members : All (λ m. made_by m.number history ≡ m.mine) joined
  pub others : (n : ℕ) → 0 < n → IsNone n joined → made_by n history ≡ []
