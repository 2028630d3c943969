-- Rows hold the sums of each column.
use Rattle.std.proofs.Common.{◌≡◌, ◌≢◌, ℕ, ℤ, pos, ◌==◌, ◌+◌, ◌-◌, ◌*◌, ◌^◌, ◌<◌, ◌≤◌, ◌+ℤ◌, unsigned_abs, Bool, true, false, cond, List, [], length, replicate, set, Option, Some, None, IfSome, refl, sym, ap, subst, ◌∙◌, length-set, get_or-set_same, get_or-set_other, arith}
use Rattle.std.proofs.lemmas.Bool.{eqb-true, false≢true}
use Rattle.std.proofs.lemmas.Bool.Decides.{nat_tests}
use Rattle.std.proofs.lemmas.List.{length-replicate, get_or-replicate}
use Rattle.std.proofs.Math.IntN.{+ℤ_idr}
use Rattle.report_cells.specs.Taken.{Shared, share_in}
use Rattle.report_cells.specs.Bounds.{places_at}
use Rattle.report_cells.specs.Kept.{Cell, cell_at, with_share, with_placed, PlacedFits, HasFewPlaces}
use Rattle.report_cells.proofs.Holding.{Holds, holds_none, holds_more, told, share_fits}

-- a column is the one that a taking goes to
abbrev pub is_at : ℕ → Option ℕ → Bool
is_at k None = false
is_at k (Some j) = j == k

-- the row has so many columns, and each holds its sums
pub record HoldsRow (row : List Cell) (width : ℕ) (exact : ℕ → List ℕ → ℤ) (most : List ℕ → ℕ) : Type 0 where
  pub columns : length row ≡ width
  pub each : (k : ℕ) → k < width → Holds (cell_at row k) (exact k) most

pub row_none : (width : ℕ) (most : List ℕ → ℕ) → HoldsRow (replicate width []) width (λ k q. pos 0) most
row_none width most = record {
  columns = length-replicate width [];
  each = λ k lt. subst (λ (c : Cell). Holds c (λ q. pos 0) most) (sym (get_or-replicate width k [] [] lt)) (holds_none most);
}

-- the same sums, told otherwise
pub row_told : (row : List Cell) (width : ℕ) (a b : ℕ → List ℕ → ℤ) (most : List ℕ → ℕ) → HoldsRow row width a most → ((k : ℕ) → k < width → (q : List ℕ) → b k q ≡ a k q) → HoldsRow row width b most
row_told row width a b most h same = record { columns = h.columns; each = λ k lt. told (cell_at row k) (a k) (b k) most (h.each k lt) (same k lt) }

apart_from : (j k : ℕ) → (j == k) ≡ false → k ≢ j
apart_from j k e same = false≢true (sym e ∙ grind (arith, nat_tests, same))

module _ (row : List Cell) (width : ℕ) (exact : ℕ → List ℕ → ℤ) (most : List ℕ → ℕ) (h : HoldsRow row width exact most) (amount : Option Shared) (few : HasFewPlaces amount) (within : (q : List ℕ) → places_at q amount ≤ most q) where
  more_in : (j k : ℕ) (b : Bool) → (j == k) ≡ b → k < width → Holds (cell_at (set row j (with_share amount (cell_at row j))) k) (λ q. exact k q +ℤ cond b (share_in q amount) (pos 0)) most
  more_in j k true e lt =
      let inside : k < length row = subst (λ n. k < n) (sym h.columns) lt in
      let new : cell_at (set row j (with_share amount (cell_at row j))) k ≡ with_share amount (cell_at row k) =
      ap (λ i. cell_at (set row i (with_share amount (cell_at row i))) k) (eqb-true j k e) ∙ get_or-set_same row k (with_share amount (cell_at row k)) [] inside in
      subst (λ (c : Cell). Holds c (λ q. exact k q +ℤ share_in q amount) most) (sym new) (holds_more (cell_at row k) (exact k) most (h.each k lt) amount few within)
  more_in j k false e lt =
      subst (λ (c : Cell). Holds c (λ q. exact k q +ℤ pos 0) most) (sym (get_or-set_other row j k (with_share amount (cell_at row j)) [] (apart_from j k e)))
      (told (cell_at row k) (exact k) (λ q. exact k q +ℤ pos 0) most (h.each k lt) (λ q. +ℤ_idr (exact k q)))

  -- one more amount, in its column
  pub row_more : (at : Option ℕ) → HoldsRow (with_placed at amount row) width (λ k q. exact k q +ℤ cond (is_at k at) (share_in q amount) (pos 0)) most
  row_more None = record { columns = h.columns; each = λ k lt. told (cell_at row k) (exact k) (λ q. exact k q +ℤ pos 0) most (h.each k lt) (λ q. +ℤ_idr (exact k q)) }
  row_more (Some j) = record {
    columns = length-set row j (with_share amount (cell_at row j)) ∙ h.columns;
    each = λ k lt. more_in j k (j == k) refl lt;
  }

  -- it can be added where the absolute sum and it stay below the bound
  pub placed_fits : (at : Option ℕ) → IfSome at (λ j. j < width) → ((k : ℕ) (q : List ℕ) → unsigned_abs (exact k q) + unsigned_abs (share_in q amount) < 2 ^ 127 * 10 ^ (36 - most q)) → PlacedFits at amount row
  placed_fits None in_row small = tt
  placed_fits (Some j) in_row small =
      (subst (λ n. j < n) (sym h.columns) in_row, share_fits (cell_at row j) (exact j) most amount (h.each j in_row) few (small j) within)
