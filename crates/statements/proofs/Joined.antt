-- A few columns that follow one another.
use Rattle.std.proofs.Common.{◌≡◌, ℕ, zero, suc, ◌+◌, ◌<◌, ◌≤◌, List, [], ◌∷◌, refl, arith}
use Rattle.hl_time.specs.Split.{part_at}
use Rattle.hl_time.specs.declared.spans.Span.{Span}
use Rattle.report_cells.specs.Follows.{Follow}

abbrev pub days : ℕ → ℕ → Span
days from end = record { from = from; end = end }

pub one_follows : (a b : ℕ) → Follow (days a b ∷ [])
one_follows a b = record {
  some = omega arith;
  joined = λ at within. absurd (omega (arith, within));
  rising = λ at within. absurd (omega (arith, within));
}

module _ (a b c : ℕ) (later : b ≤ c) where
  two_joined : (at : ℕ) → at + 1 < 2 → (part_at (days a b ∷ days b c ∷ []) at).end ≡ (part_at (days a b ∷ days b c ∷ []) (at + 1)).from
  two_joined zero within = refl
  two_joined (suc at) within = absurd (omega (arith, within))

  two_rising : (at : ℕ) → at + 1 < 2 → (part_at (days a b ∷ days b c ∷ []) at).end ≤ (part_at (days a b ∷ days b c ∷ []) (at + 1)).end
  two_rising zero within = later
  two_rising (suc at) within = absurd (omega (arith, within))

  pub two_follow : Follow (days a b ∷ days b c ∷ [])
  two_follow = record { some = omega arith; joined = two_joined; rising = two_rising }

module _ (a b c d : ℕ) (later : b ≤ c) (last : c ≤ d) where
  abbrev three : List Span
  three = days a b ∷ days b c ∷ days c d ∷ []

  three_joined : (at : ℕ) → at + 1 < 3 → (part_at three at).end ≡ (part_at three (at + 1)).from
  three_joined zero within = refl
  three_joined (suc zero) within = refl
  three_joined (suc (suc at)) within = absurd (omega (arith, within))

  three_rising : (at : ℕ) → at + 1 < 3 → (part_at three at).end ≤ (part_at three (at + 1)).end
  three_rising zero within = later
  three_rising (suc zero) within = last
  three_rising (suc (suc at)) within = absurd (omega (arith, within))

  pub three_follow : Follow three
  three_follow = record { some = omega arith; joined = three_joined; rising = three_rising }
