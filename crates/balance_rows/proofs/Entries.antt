-- Sums and turnovers of lists of entries.
use Rattle.std.proofs.Common.{◌≡◌, ℕ, zero, suc, ℤ, ◌+◌, ◌<◌, ◌≤◌, ◌+ℤ◌, unsigned_abs, List, [], ◌∷◌, ◌++◌, length, get_or, map, sym, ap, subst, ◌∙◌, refl, arith}
use Rattle.std.proofs.Math.IntN.{+ℤ_assoc, +ℤ_idl}
use Rattle.std.specs.List.{flat_map, AllByRecursion}
use Rattle.std.proofs.lemmas.List.{map-append}
use Rattle.hl_num.specs.Decimal.{Decimal, units_of}
use Rattle.hl_num.proofs.DecimalLaws.{unsigned_abs-add}
use Rattle.report_cells.specs.Report.{Sums, seen}
use Rattle.balance_rows.specs.Fitting.{turnover}
use Rattle.balance_rows.specs.Kept.{KeptSums, all_entries}
use Rattle.balance_rows.specs.Sums.{share, sum_of, entries_of}

module _ (q : List ℕ) where
  pub sum_of-append : (xs ys : Sums) → sum_of q (xs ++ ys) ≡ sum_of q xs +ℤ sum_of q ys
  sum_of-append [] ys = sym (+ℤ_idl (sum_of q ys))
  sum_of-append (x ∷ xs) ys = ap (λ (z : ℤ). share q x +ℤ z) (sum_of-append xs ys) ∙ sym (+ℤ_assoc (share q x) (sum_of q xs) (sum_of q ys))

  pub turnover-append : (xs ys : Sums) → turnover q (xs ++ ys) ≡ turnover q xs + turnover q ys
  turnover-append [] ys = omega arith
  turnover-append (x ∷ xs) ys = omega (arith, turnover-append xs ys)

  pub sum-le-turnover : (xs : Sums) → unsigned_abs (sum_of q xs) ≤ turnover q xs
  sum-le-turnover [] = omega arith
  sum-le-turnover (x ∷ xs) = omega (arith, unsigned_abs-add (share q x) (sum_of q xs), sum-le-turnover xs)

module _ {X : Type 0} (P : X → Type 0) where
  pub all-append : (xs ys : List X) → AllByRecursion P xs → AllByRecursion P ys → AllByRecursion P (xs ++ ys)
  all-append [] ys f g = g
  all-append (x ∷ xs) ys f g = (f.0, all-append xs ys f.1 g)

  pub all-first : (xs ys : List X) → AllByRecursion P (xs ++ ys) → AllByRecursion P xs
  all-first [] ys h = tt
  all-first (x ∷ xs) ys h = (h.0, all-first xs ys h.1)

  pub all-rest : (xs ys : List X) → AllByRecursion P (xs ++ ys) → AllByRecursion P ys
  all-rest [] ys h = h
  all-rest (x ∷ xs) ys h = all-rest xs ys h.1

  -- what holds of all holds of the one at a place
  pub all-at : (xs : List X) (i : ℕ) (d : X) → i < length xs → d ≡ get_or xs i d → AllByRecursion P xs → P d
  all-at [] i d within is h = absurd (omega arith)
  all-at (x ∷ xs) zero d within is h = subst P (sym is) h.0
  all-at (x ∷ xs) (suc i) d within is h = all-at xs i d (omega arith) is h.1

module _ {X Y : Type 0} (P : Y → Type 0) (f : X → Y) where
  pub all-mapped-at : (xs : List X) (i : ℕ) (d : X) → i < length xs → d ≡ get_or xs i d → AllByRecursion P (map f xs) → P (f d)
  all-mapped-at [] i d within is h = absurd (omega arith)
  all-mapped-at (x ∷ xs) zero d within is h = subst (λ (y : X). P (f y)) (sym is) h.0
  all-mapped-at (x ∷ xs) (suc i) d within is h = all-mapped-at xs i d (omega arith) is h.1

-- what several cells say
pub seen_all : (cells : List KeptSums) → seen (all_entries cells) ≡ entries_of (map seen cells)
seen_all [] = refl
seen_all (cell ∷ cells) = map-append (λ (entry : List ℕ × Decimal). (entry.0, units_of entry.1)) cell (all_entries cells) ∙ ap (λ (rest : Sums). seen cell ++ rest) (seen_all cells)
