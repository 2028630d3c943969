-- Sums that are added to others, and running sums over the columns of a row.
use Rattle.std.proofs.Common.{◌≡◌, ℕ, suc, zero, ℤ, pos, ◌+◌, ◌-◌, ◌*◌, ◌^◌, ◌<◌, ◌≤◌, ◌+ℤ◌, unsigned_abs, Bool, true, cond, List, [], ◌∷◌, length, Option, Some, None, ◌⊎◌, inl, inr, T, refl, sym, ap, subst, ◌∙◌, arith}
use Rattle.std.specs.Ordering.{nat_cmp, is_eq}
use Rattle.std.specs.Cmp.Lexicographic.{slice_cmp}
use Rattle.std.specs.FinMap.Entries.{below_all}
use Rattle.std.proofs.Math.IntN.{+ℤ_idl, +ℤ_idr}
use Rattle.hl_num.specs.Decimal.{Decimal, units_of}
use Rattle.hl_num.proofs.DecimalLaws.{unsigned_abs-add}
use Rattle.book.specs.Entries.{IsRising, held}
use Rattle.book.specs.Mixed.{added, fits_with}
use Rattle.book.proofs.Entries.{tie-bytes_eq}
use Rattle.book.proofs.Places.{first, second, less}
use Rattle.report_cells.specs.Taken.{share_in}
use Rattle.report_cells.specs.Bounds.{places_at}
use Rattle.report_cells.specs.Kept.{Cell, cell_at, merged, MergeFits, running, RunningFits}
use Rattle.report_cells.proofs.Holding.{HoldsSum, Holds, holds_none, holds_more, told, fits_found, alike, bytes_eq-itself}
use Rattle.report_cells.proofs.Standing.{HoldsRow}

-- the value of a sum, if it is there
abbrev pub units_at : Option Decimal → ℤ
units_at None = pos 0
units_at (Some d) = units_of d

-- it has few decimals
abbrev FewAt : Option Decimal → ℕ → Type 0
FewAt None most = Unit {0}
FewAt (Some d) most = (d.places ≤ most) × (d.places ≤ 36)

none_after : (k : List ℕ) (es : Cell) → T (below_all (slice_cmp nat_cmp) k es) → held k es ≡ None
none_after k [] h = refl
none_after k (e ∷ es) h =
    ap (λ r. cond (is_eq r) (Some e.1) (held k es)) (less _ (first _ _ h)) ∙ none_after k es (second _ _ h)

module _ (e : List ℕ × Decimal) (es : Cell) (rising : IsRising (e ∷ es)) where
  gone : held e.0 es ≡ None
  gone = none_after e.0 es (first _ _ rising)

  there : held e.0 (e ∷ es) ≡ Some e.1
  there = ap (λ (b : Bool). cond b (Some e.1) (held e.0 es)) (tie-bytes_eq e.0 e.0 ∙ bytes_eq-itself e.0)

  -- the first entry is that of the symbol and no other is, or it is that of another
  record Here (q : List ℕ) : Type 0 where
    share : share_in q (Some e) ≡ units_at (held q (e ∷ es))
    none : held q es ≡ None
    held : held q (e ∷ es) ≡ Some e.1
    places : places_at q (Some e) ≡ e.1.places

  record Elsewhere (q : List ℕ) : Type 0 where
    share : share_in q (Some e) ≡ pos 0
    same : held q (e ∷ es) ≡ held q es
    places : places_at q (Some e) ≡ 0

  here_at : Here e.0
  here_at = record {
    share = ap (λ (b : Bool). cond b (units_of e.1) (pos 0)) (bytes_eq-itself e.0) ∙ sym (ap units_at there);
    none = gone;
    held = there;
    places = ap (λ (b : Bool). cond b e.1.places 0) (bytes_eq-itself e.0);
  }

  split : (q : List ℕ) → Here q ⊎ Elsewhere q
  split q = elim (alike e.0 q) [
    | inl same ↦ inl (subst Here same here_at)
    | inr differ ↦ inr (record {
      share = ap (λ (b : Bool). cond b (units_of e.1) (pos 0)) differ;
      same = ap (λ (b : Bool). cond b (Some e.1) (held q es)) (tie-bytes_eq q e.0 ∙ differ);
      places = ap (λ (b : Bool). cond b e.1.places 0) differ;
    })
  ]

  module _ (exact : List ℕ → ℤ) (most : List ℕ → ℕ) (few : (q : List ℕ) → FewAt (held q (e ∷ es)) (most q)) where
    few_first : (e.1.places ≤ most e.0) × (e.1.places ≤ 36)
    few_first = subst (λ (o : Option Decimal). FewAt o (most e.0)) there (few e.0)

    few_rest : (q : List ℕ) → FewAt (held q es) (most q)
    few_rest q = elim (split q) [
      | inl here ↦ subst (λ (o : Option Decimal). FewAt o (most q)) (sym here.none) tt
      | inr other ↦ subst (λ (o : Option Decimal). FewAt o (most q)) other.same (few q)
    ]

    within : (q : List ℕ) → places_at q (Some e) ≤ most q
    within q = elim (split q) [
      | inl here ↦ omega (arith, here.places, (subst (λ (o : Option Decimal). FewAt o (most q)) here.held (few q)).0)
      | inr other ↦ omega (arith, other.places)
    ]

    module _ (small : (q : List ℕ) → unsigned_abs (exact q) + unsigned_abs (units_at (held q (e ∷ es))) < 2 ^ 127 * 10 ^ (36 - most q)) where
      small_first : unsigned_abs (exact e.0) + unsigned_abs (units_of e.1) < 2 ^ 127 * 10 ^ (36 - most e.0)
      small_first = subst (λ (o : Option Decimal). unsigned_abs (exact e.0) + unsigned_abs (units_at o) < 2 ^ 127 * 10 ^ (36 - most e.0)) there (small e.0)

      small_rest : (q : List ℕ) → unsigned_abs (exact q +ℤ share_in q (Some e)) + unsigned_abs (units_at (held q es)) < 2 ^ 127 * 10 ^ (36 - most q)
      small_rest q = elim (split q) [
        | inl here ↦
            let nothing : unsigned_abs (units_at (held q es)) ≡ 0 = ap (λ (o : Option Decimal). unsigned_abs (units_at o)) here.none in
            let share : unsigned_abs (share_in q (Some e)) ≡ unsigned_abs (units_at (held q (e ∷ es))) = ap unsigned_abs here.share in
            omega (arith, small q, nothing, share, unsigned_abs-add (exact q) (share_in q (Some e)))
        | inr other ↦
            let same : unsigned_abs (units_at (held q (e ∷ es))) ≡ unsigned_abs (units_at (held q es)) = ap (λ (o : Option Decimal). unsigned_abs (units_at o)) other.same in
            let share : unsigned_abs (exact q +ℤ share_in q (Some e)) ≡ unsigned_abs (exact q) = ap unsigned_abs (ap (λ (z : ℤ). exact q +ℤ z) other.share ∙ +ℤ_idr (exact q)) in
            omega (arith, small q, same, share)
      ]

    sums_same : (q : List ℕ) → exact q +ℤ units_at (held q (e ∷ es)) ≡ (exact q +ℤ share_in q (Some e)) +ℤ units_at (held q es)
    sums_same q = elim (split q) [
      | inl here ↦ ap (λ (z : ℤ). exact q +ℤ z) (sym here.share) ∙ sym (+ℤ_idr (exact q +ℤ share_in q (Some e))) ∙ ap (λ (o : Option Decimal). (exact q +ℤ share_in q (Some e)) +ℤ units_at o) (sym here.none)
      | inr other ↦
          ap (λ (o : Option Decimal). exact q +ℤ units_at o) other.same
          ∙ ap (λ (z : ℤ). z +ℤ units_at (held q es)) (sym (ap (λ (z : ℤ). exact q +ℤ z) other.share ∙ +ℤ_idr (exact q)))
    ]

-- what adding some sums to others comes to
pub record Merges (sums es : Cell) (exact : List ℕ → ℤ) (most : List ℕ → ℕ) : Type 0 where
  pub fits : MergeFits sums es
  pub holds : Holds (merged sums es) exact most

merge_each : (es sums : Cell) (exact : List ℕ → ℤ) (most : List ℕ → ℕ) → Holds sums exact most → IsRising es → ((q : List ℕ) → FewAt (held q es) (most q))
    → ((q : List ℕ) → unsigned_abs (exact q) + unsigned_abs (units_at (held q es)) < 2 ^ 127 * 10 ^ (36 - most q))
    → Merges sums es (λ q. exact q +ℤ units_at (held q es)) most
merge_each [] sums exact most h rising few small = record { fits = tt; holds = told sums exact (λ q. exact q +ℤ pos 0) most h (λ q. +ℤ_idr (exact q)) }
merge_each (e ∷ es) sums exact most h rising few small =
    let of_first = few_first e es rising exact most few in
    let one : fits_with (held e.0 sums) e.1 ≡ true = fits_found (held e.0 sums) e.1 (exact e.0) (most e.0) (h.each e.0) of_first.0 of_first.1 (small_first e es rising exact most few small) in
    let next = holds_more sums exact most h (Some e) of_first.1 (within e es rising exact most few) in
    let rest = merge_each es (added e.0 e.1 sums) (λ q. exact q +ℤ share_in q (Some e)) most next (second _ _ rising) (few_rest e es rising exact most few) (small_rest e es rising exact most few small) in
    record {
      fits = (one, rest.fits);
      holds = told (merged sums (e ∷ es)) (λ q. (exact q +ℤ share_in q (Some e)) +ℤ units_at (held q es)) (λ q. exact q +ℤ units_at (held q (e ∷ es))) most rest.holds (sums_same e es rising exact most few);
    }

few_held : (o : Option Decimal) (z : ℤ) (most : ℕ) → HoldsSum o z most → FewAt o most
few_held None z most h = tt
few_held (Some d) z most h = (h.places, h.few)

units_held : (o : Option Decimal) (z : ℤ) (most : ℕ) → HoldsSum o z most → z ≡ units_at o
units_held None z most h = h
units_held (Some d) z most h = sym h.units

-- sums of two kinds, together
pub merge_both : (a b : Cell) (s t : List ℕ → ℤ) (most : List ℕ → ℕ) → Holds a s most → Holds b t most → ((q : List ℕ) → unsigned_abs (s q) + unsigned_abs (t q) < 2 ^ 127 * 10 ^ (36 - most q)) → Merges a b (λ q. s q +ℤ t q) most
merge_both a b s t most h g small =
    let is : (q : List ℕ) → t q ≡ units_at (held q b) = λ q. units_held (held q b) (t q) (most q) (g.each q) in
    let all = merge_each b a s most h g.ordered.rising (λ q. few_held (held q b) (t q) (most q) (g.each q)) (λ q. subst (λ (z : ℤ). unsigned_abs (s q) + unsigned_abs z < 2 ^ 127 * 10 ^ (36 - most q)) (is q) (small q)) in
    record { fits = all.fits; holds = told (merged a b) _ (λ q. s q +ℤ t q) most all.holds (λ q. ap (λ (z : ℤ). s q +ℤ z) (is q)) }

-- ---- running sums

pub record Runs (sofar : Cell) (row : List Cell) (total : ℕ → List ℕ → ℤ) (most : List ℕ → ℕ) : Type 0 where
  pub fits : RunningFits sofar row
  pub holds : HoldsRow (running sofar row) (length row) (λ k. total (suc k)) most

-- each column adds its sums to the total of those before it
pub runs : (row : List Cell) (sofar : Cell) (total exact : ℕ → List ℕ → ℤ) (most : List ℕ → ℕ) → Holds sofar (total 0) most
    → ((k : ℕ) → k < length row → Holds (cell_at row k) (exact k) most)
    → ((k : ℕ) (q : List ℕ) → total (suc k) q ≡ total k q +ℤ exact k q)
    → ((k : ℕ) (q : List ℕ) → unsigned_abs (total k q) + unsigned_abs (exact k q) < 2 ^ 127 * 10 ^ (36 - most q))
    → ((k : ℕ) (q : List ℕ) → unsigned_abs (total k q) < 2 ^ 127 * 10 ^ (36 - most q))
    → Runs sofar row total most
runs [] sofar total exact most h each adds small low = record { fits = tt; holds = record { columns = refl; each = λ k lt. absurd (omega (arith, lt)) } }
runs (change ∷ changes) sofar total exact most h each adds small low =
    let both = merge_both sofar change (total 0) (exact 0) most h (each 0 (omega arith)) (small 0) in
    let next = told (merged sofar change) (λ q. total 0 q +ℤ exact 0 q) (total 1) most both.holds (adds 0) in
    let copy = merge_both [] (merged sofar change) (λ q. pos 0) (total 1) most (holds_none most) next (λ q. omega (arith, low 1 q)) in
    let rest = runs changes (merged sofar change) (λ k. total (suc k)) (λ k. exact (suc k)) most next (λ k lt. each (suc k) (omega (arith, lt))) (λ k. adds (suc k)) (λ k. small (suc k)) (λ k. low (suc k)) in
    let copied = told (merged [] (merged sofar change)) (λ q. pos 0 +ℤ total 1 q) (total 1) most copy.holds (λ q. sym (+ℤ_idl (total 1 q))) in
    record {
      fits = (both.fits, (copy.fits, rest.fits));
      holds = record { columns = ap suc rest.holds.columns; each = cells copied rest.holds };
    }
  where
    cells : Holds (merged [] (merged sofar change)) (total 1) most → HoldsRow (running (merged sofar change) changes) (length changes) (λ k. total (suc (suc k))) most → (k : ℕ) → k < suc (length changes) → Holds (cell_at (running sofar (change ∷ changes)) k) (total (suc k)) most
    cells copied rest zero lt = copied
    cells copied rest (suc k) lt = rest.each k (omega (arith, lt))
