-- What stands under numbers, and what is kept of it.
use Rattle.std.proofs.Common.{◌≡◌, ℕ, zero, suc, ◌-◌, ◌<◌, ◌≤◌, max, true, false, ◌&&◌, not, cond, [], ◌∷◌, length, get_or, drop, Some, refl, sym, ap, ◌∙◌, subst, arith}
use Rattle.std.specs.Prelude.{nat_lt, ◌==◌}
use Rattle.std.specs.List.{insert}
use Rattle.book.specs.declared.style.Style.{Style}
use Rattle.book.specs.Standing.{Numbered, all_greater, with_number, without_number, styles_only, last_kept}
use Rattle.book.specs.Style.{most_places}

-- the greatest number of decimals of one more
pub most-with : (n : ℕ) (s : Style) (ms : Numbered Style) → most_places (styles_only (with_number n s ms)) ≡ max (most_places (styles_only ms)) s.places
most-with n s [] = omega arith
most-with n s (m ∷ ms) =
    elim (all_greater n (m ∷ ms)) as (λ b. most_places (styles_only (cond b ((n, s) ∷ m ∷ ms) (m ∷ with_number n s ms))) ≡ max (most_places (styles_only (m ∷ ms))) s.places) [
      | true ↦ omega arith
      | false ↦ let rest = most-with n s ms in ap (λ k. max m.1.places k) rest ∙ omega arith
    ]

-- an insertion behind all that aren't greater at the end
pub insert-with : {X : Type 0} (n : ℕ) (x : X) (ms : Numbered X) (at : ℕ) → at ≤ length ms → all_greater n (drop at ms) ≡ true → ((d : ℕ × X) → 0 < at → nat_lt n (get_or ms (at - 1) d).0 ≡ false) → insert ms at (n, x) ≡ with_number n x ms
insert-with {X = X} n x [] zero le all stop = refl
insert-with {X = X} n x [] (suc at) le all stop = absurd (omega arith)
insert-with {X = X} n x (m ∷ ms) zero le all stop = ap (λ b. cond b ((n, x) ∷ m ∷ ms) (m ∷ with_number n x ms)) (sym all)
insert-with {X = X} n x (m ∷ ms) (suc at) le all stop =
    ap (λ t. m ∷ t) (insert-with n x ms at (omega arith) all (rest at stop))
    ∙ ap (λ b. cond b ((n, x) ∷ m ∷ ms) (m ∷ with_number n x ms)) (sym (somewhere (m ∷ ms) at m (omega arith) (let here : suc at - 1 ≡ at = omega arith in subst (λ i. nat_lt n (get_or (m ∷ ms) i m).0 ≡ false) here (stop m (omega arith)))))
  where
    rest : (at : ℕ) → ((d : ℕ × X) → 0 < suc at → nat_lt n (get_or (m ∷ ms) (suc at - 1) d).0 ≡ false) → (d : ℕ × X) → 0 < at → nat_lt n (get_or ms (at - 1) d).0 ≡ false
    rest zero stop d lt = absurd (omega arith)
    rest (suc at) stop d lt =
        let one : suc (suc at) - 1 ≡ suc at = omega arith in
        let less : suc at - 1 ≡ at = omega arith in
        subst (λ i. nat_lt n (get_or ms i d).0 ≡ false) (sym less) (subst (λ i. nat_lt n (get_or (m ∷ ms) i d).0 ≡ false) one (stop d (omega arith)))

    somewhere : (xs : Numbered X) (i : ℕ) (d : ℕ × X) → i < length xs → nat_lt n (get_or xs i d).0 ≡ false → all_greater n xs ≡ false
    somewhere [] i d lt is = absurd (omega arith)
    somewhere (y ∷ ys) zero d lt is = ap (λ b. b && all_greater n ys) is
    somewhere (y ∷ ys) (suc i) d lt is =
        elim (nat_lt n y.0) as (λ b. (b && all_greater n ys) ≡ false) [
          | true ↦ somewhere ys i d (omega arith) is
          | false ↦ refl
        ]

-- fewer have no more decimals
pub most-without : (n : ℕ) (ms : Numbered Style) → most_places (styles_only (without_number n ms)) ≤ most_places (styles_only ms)
most-without n [] = omega arith
most-without n (m ∷ ms) =
    let rest = most-without n ms in
    elim (m.0 == n) as (λ b. most_places (styles_only (cond (not b) (m ∷ without_number n ms) (without_number n ms))) ≤ max m.1.places (most_places (styles_only ms))) [
      | true ↦ omega arith
      | false ↦ omega arith
    ]

-- the last that is kept
pub last-at : (ms : Numbered Style) (m : ℕ × Style) → 0 < length ms → ((d : ℕ × Style) → m ≡ get_or ms (length ms - 1) d) → Some m.1 ≡ last_kept ms
last-at [] m lt is = absurd (omega arith)
last-at (a ∷ []) m lt is = ap (λ (x : ℕ × Style). Some x.1) (is a)
last-at (a ∷ b ∷ more) m lt is =
    let one : suc (suc (length more)) - 1 ≡ suc (length more) = omega arith in
    let less : suc (length more) ≡ suc (suc (length more) - 1) = omega arith in
    last-at (b ∷ more) m (omega arith) (λ d. is d ∙ ap (λ n. get_or (a ∷ b ∷ more) n d) (one ∙ less))

-- none has more decimals than the greatest number
pub within-most : (ms : Numbered Style) (i : ℕ) (d : ℕ × Style) → i < length ms → (get_or ms i d).1.places ≤ most_places (styles_only ms)
within-most [] i d lt = absurd (omega arith)
within-most (m ∷ ms) zero d lt = omega arith
within-most (m ∷ ms) (suc i) d lt = let rest = within-most ms i d (omega arith) in omega arith
