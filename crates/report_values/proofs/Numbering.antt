-- Columns that are known by their numbers follow one another.
use Rattle.std.proofs.Common.{◌≡◌, ℕ, zero, suc, ◌+◌, ◌<◌, ◌≤◌, List, [], ◌∷◌, ◌++◌, length, refl, sym, ap, ◌∙◌, arith}
use Rattle.hl_time.specs.Split.{part_at}
use Rattle.hl_time.specs.declared.spans.Span.{Span}
use Rattle.report_cells.specs.Follows.{Follow}
use Rattle.report_values.specs.Numbers.{numbers_from, numbers}

-- the one day of a number
abbrev pub one : ℕ → Span
one n = record { from = n; end = n + 1 }

pub numbers-more : (n w : ℕ) → numbers_from n w ++ one (n + w) ∷ [] ≡ numbers_from n (suc w)
numbers-more n zero = let is : n + 0 ≡ n = omega arith in ap (λ k. one k ∷ []) is
numbers-more n (suc w) =
    let is : n + suc w ≡ (n + 1) + w = omega arith in
    ap (λ k. one n ∷ (numbers_from (n + 1) w ++ one k ∷ [])) is ∙ ap (λ (t : List Span). one n ∷ t) (numbers-more (n + 1) w)

pub numbers-length : (n w : ℕ) → length (numbers_from n w) ≡ w
numbers-length n zero = refl
numbers-length n (suc w) = ap suc (numbers-length (n + 1) w)

part_is : (n w k : ℕ) → k < w → part_at (numbers_from n w) k ≡ one (n + k)
part_is n zero k lt = absurd (omega (arith, lt))
part_is n (suc w) zero lt = let is : n ≡ n + 0 = omega arith in ap one is
part_is n (suc w) (suc k) lt = let is : (n + 1) + k ≡ n + suc k = omega arith in part_is (n + 1) w k (omega (arith, lt)) ∙ ap one is

pub follow : (w : ℕ) → 0 < w → Follow (numbers w)
follow w some = record {
  some = omega (arith, some, numbers-length 0 w);
  joined = λ at lt.
      let here = part_is 0 w at (omega (arith, lt, numbers-length 0 w)) in
      let next = part_is 0 w (at + 1) (omega (arith, lt, numbers-length 0 w)) in
      let is : 0 + at + 1 ≡ 0 + (at + 1) = omega arith in
      ap (λ (s : Span). s.end) here ∙ is ∙ ap (λ (s : Span). s.from) (sym next);
  rising = λ at lt.
      let here = ap (λ (s : Span). s.end) (part_is 0 w at (omega (arith, lt, numbers-length 0 w))) in
      let next = ap (λ (s : Span). s.end) (part_is 0 w (at + 1) (omega (arith, lt, numbers-length 0 w))) in
      omega (arith, here, next);
}

-- one column more
pub numbers-next : (old new : List Span) (n : ℕ) → old ≡ numbers n → new ≡ old ++ one n ∷ [] → new ≡ numbers (n + 1)
numbers-next old new n is more =
    let same : n ≡ 0 + n = omega arith in
    let next : suc n ≡ n + 1 = omega arith in
    more ∙ ap (λ (ts : List Span). ts ++ one n ∷ []) is ∙ ap (λ k. numbers n ++ one k ∷ []) same ∙ numbers-more 0 n ∙ ap numbers next
