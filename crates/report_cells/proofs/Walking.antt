-- How loops over sums, columns and takings go on.
use Rattle.std.proofs.Common.{◌≡◌, ℕ, zero, suc, ◌+◌, ◌-◌, ◌*◌, ◌^◌, ◌<◌, ◌≤◌, unsigned_abs, List, [], ◌∷◌, ◌++◌, length, get_or, take, drop, map, find, Bool, true, false, cond, Option, Some, None, is_some, Result, Ok, Err, OnOk, IsTrue, refl, sym, ap, subst, ◌∙◌, add-one, drop-cons, take-append-drop, arith}
use Rattle.std.specs.List.{AllByRecursion}
use Rattle.std.proofs.lemmas.List.{append_assoc, take_more, drop_all, append-nil, map-id}
use Rattle.std.proofs.lemmas.Bool.{false≢true}
use Rattle.hl_num.specs.Decimal.{Decimal}
use Rattle.book.specs.Entries.{held}
use Rattle.book.specs.Mixed.{added, fits_with}
use Rattle.hl_time.specs.declared.spans.Span.{Span}
use Rattle.report_cells.specs.Taken.{Taken, share_in}
use Rattle.report_cells.specs.Bounds.{turnover_in, places_at, places_in, TurnoverFits}
use Rattle.report_cells.specs.Places.{place}
use Rattle.report_cells.specs.declared.reach.Reach.{Reach}
use Rattle.report_cells.specs.Kept.{Cell, KeptRows, PlacedFits, row_at, row_with, merged, MergeFits, running, RunningFits, HasFewPlaces}
use Rattle.report_cells.specs.Turned.{Turnovers, turned_with}
use Rattle.report_cells.proofs.Counting.{place-within}
use Rattle.report_cells.proofs.Gathering.{IsGathered, gathered_more, row_fits, next_small, next_within}
use Rattle.report_cells.proofs.Sizes.{Sized, sized_none, sized_more}

pub on_ok : {E P Q : Type 0} (r : Result (Unit {0}) E) → (P → Q) → OnOk r P → OnOk r Q
on_ok (Ok u) f h = f h
on_ok (Err e) f h = tt

-- what is left of a list
pub cut : {A : Type 0} (xs : List A) (i : ℕ) (x : A) → i < length xs → x ≡ get_or xs i x → drop i xs ≡ x ∷ drop (i + 1) xs
cut xs i x within read =
    let at : drop i xs ≡ get_or xs i x ∷ drop (i + 1) xs = rw (add-one, drop-cons xs i x) refl in
    at ∙ ap (λ y. y ∷ drop (i + 1) xs) (sym read)

-- ---- sums that are added to others

pub record Merging (old now all : Cell) (at : ℕ) : Type 0 where
  pub left : merged now (drop at all) ≡ merged old all
  pub fits : MergeFits now (drop at all)

module _ (old now all : Cell) (at : ℕ) (e : List ℕ × Decimal) (within : at < length all) (read : e ≡ get_or all at e) (h : Merging old now all at) where
  left_here : MergeFits now (e ∷ drop (at + 1) all)
  left_here = subst (MergeFits now) (cut all at e within read) h.fits

  pub entry_fits : IsTrue (fits_with (held e.0 now) e.1)
  entry_fits = left_here.0

  pub merging_more : (new : Cell) → new ≡ added e.0 e.1 now → Merging old new all (at + 1)
  merging_more new is = record {
    left = ap (λ (m : Cell). merged m (drop (at + 1) all)) is ∙ sym (ap (merged now) (cut all at e within read)) ∙ h.left;
    fits = subst (λ (m : Cell). MergeFits m (drop (at + 1) all)) (sym is) left_here.1;
  }

pub merging_done : (old now all : Cell) (at : ℕ) → length all ≤ at → Merging old now all at → now ≡ merged old all
merging_done old now all at over h = sym (ap (merged now) (drop_all at all over)) ∙ h.left

-- ---- running sums

pub record Summing (sofar : Cell) (cells : List Cell) (changes : List Cell) (at : ℕ) : Type 0 where
  pub left : cells ++ running sofar (drop at changes) ≡ running [] changes
  pub fits : RunningFits sofar (drop at changes)

module _ (sofar : Cell) (cells changes : List Cell) (at : ℕ) (change : Cell) (within : at < length changes) (read : change ≡ get_or changes at change) (h : Summing sofar cells changes at) where
  sums_here : RunningFits sofar (change ∷ drop (at + 1) changes)
  sums_here = subst (RunningFits sofar) (cut changes at change within read) h.fits

  pub change_fits : MergeFits sofar change
  change_fits = sums_here.0

  module _ (new : Cell) (is : new ≡ merged sofar change) where
    pub copy_fits : MergeFits [] new
    copy_fits = subst (MergeFits []) (sym is) sums_here.1.0

    pub summing_more : (copy : Cell) → copy ≡ merged [] new → (more : List Cell) → more ≡ cells ++ copy ∷ [] → Summing new more changes (at + 1)
    summing_more copy same more pushed = record {
      left = ap (λ (xs : List Cell). xs ++ running new (drop (at + 1) changes)) pushed
          ∙ append_assoc cells (copy ∷ []) (running new (drop (at + 1) changes))
          ∙ ap (λ (c : Cell). cells ++ c ∷ running new (drop (at + 1) changes)) same
          ∙ ap (λ (m : Cell). cells ++ merged [] m ∷ running m (drop (at + 1) changes)) is
          ∙ sym (ap (λ (xs : List Cell). cells ++ running sofar xs) (cut changes at change within read))
          ∙ h.left;
      fits = subst (λ (m : Cell). RunningFits m (drop (at + 1) changes)) (sym is) sums_here.1.1;
    }

pub summing_done : (sofar : Cell) (cells changes : List Cell) (at : ℕ) → length changes ≤ at → Summing sofar cells changes at → cells ≡ running [] changes
summing_done sofar cells changes at over h =
    sym (append-nil cells) ∙ sym (ap (λ (xs : List Cell). cells ++ running sofar xs) (drop_all at changes over)) ∙ h.left

-- ---- the absolute amounts of takings

pub record Checking (kept : Turnovers) (done : List Taken) : Type 0 where
  pub sized : Sized kept done
  pub few : AllByRecursion (λ t. HasFewPlaces t.amount) done

pub few-push : (ts : List Taken) (t : Taken) → AllByRecursion (λ t. HasFewPlaces t.amount) ts → HasFewPlaces t.amount → AllByRecursion (λ t. HasFewPlaces t.amount) (ts ++ t ∷ [])
few-push [] t h few = (few, tt)
few-push (x ∷ ts) t h few = (h.0, few-push ts t h.1 few)

pub checking_none : (kept : Turnovers) → kept ≡ [] → Checking kept []
checking_none kept is = subst (λ (k : Turnovers). Checking k []) (sym is) (record { sized = sized_none; few = tt })

pub checking_more : (kept new : Turnovers) (ts : List Taken) (i : ℕ) (t : Taken) → i < length ts → t ≡ get_or ts i t → Checking kept (take i ts) → HasFewPlaces t.amount → new ≡ turned_with t.amount kept → Checking new (take (i + 1) ts)
checking_more kept new ts i t within read h few is =
    let done : take (i + 1) ts ≡ take i ts ++ t ∷ [] = take_more ts i t within ∙ ap (λ x. take i ts ++ x ∷ []) (sym read) in
    subst (Checking new) (sym done) (subst (λ (k : Turnovers). Checking k (take i ts ++ t ∷ [])) (sym is) (record { sized = sized_more kept (take i ts) h.sized t few; few = few-push (take i ts) t h.few few }))

pub few_at : (ts : List Taken) (i : ℕ) (t : Taken) → i < length ts → t ≡ get_or ts i t → AllByRecursion (λ t. HasFewPlaces t.amount) ts → HasFewPlaces t.amount
few_at [] i t within read h = absurd (omega (arith, within))
few_at (x ∷ ts) zero t within read h = subst (λ (t : Taken). HasFewPlaces t.amount) (sym read) h.0
few_at (x ∷ ts) (suc i) t within read h = few_at ts i t (omega (arith, within)) read h.1

-- what is read and what is left make up all takings
pub around : (ts : List Taken) (i : ℕ) (t : Taken) → i < length ts → t ≡ get_or ts i t → ts ≡ take i ts ++ t ∷ drop (i + 1) ts
around ts i t within read = sym (take-append-drop i ts) ∙ ap (λ rest. take i ts ++ rest) (cut ts i t within read)

-- ---- entries that are taken out one after another

module _ {A : Type 0} where
  -- those that came, the one at hand, and what is left make up all
  pub whole : (all s xs t : List A) (x : A) (u : List A) → s ≡ all → s ≡ map (λ p. p) xs ++ t → t ≡ x ∷ u → all ≡ xs ++ x ∷ u
  whole all s xs t x u start so_far next = sym start ∙ so_far ∙ ap (λ ys. ys ++ t) (map-id xs) ∙ ap (λ ys. xs ++ ys) next

  pub find-first : (p : A → Bool) (xs : List A) (x : A) (u : List A) → find p xs ≡ None → p x ≡ true → find p (xs ++ x ∷ u) ≡ Some x
  find-first p [] x u none is = ap (λ (b : Bool). cond b (Some x) (find p u)) is
  find-first p (y ∷ xs) x u none is =
      elim (p y) as (λ b. cond b (Some y) (find p xs) ≡ None → cond b (Some y) (find p (xs ++ x ∷ u)) ≡ Some x) [ true ↦ λ e. absurd (false≢true (sym (ap is_some e))) | false ↦ λ e. find-first p xs x u e is ] none

  pub find-push : (p : A → Bool) (xs : List A) (x : A) → find p xs ≡ None → p x ≡ false → find p (xs ++ x ∷ []) ≡ None
  find-push p [] x none is = ap (λ (b : Bool). cond b (Some x) None) is
  find-push p (y ∷ xs) x none is =
      elim (p y) as (λ b. cond b (Some y) (find p xs) ≡ None → cond b (Some y) (find p (xs ++ x ∷ [])) ≡ None) [ true ↦ λ e. e | false ↦ λ e. find-push p xs x e is ] none

  pub all-at : (P : A → Type 0) (xs : List A) (x : A) (u : List A) → AllByRecursion P (xs ++ x ∷ u) → P x
  all-at P [] x u h = h.0
  all-at P (y ∷ xs) x u h = all-at P xs x u h.1

-- ---- the rows

module _ (reach : Reach) (columns : List Span) (ts : List Taken) (fits : TurnoverFits ts) (few : AllByRecursion (λ t. HasFewPlaces t.amount) ts) where
  abbrev goes : Taken → Option ℕ
  goes t = place reach columns t.day

  abbrev most : List ℕ → ℕ
  most q = places_in q ts

  module _ (i : ℕ) (t : Taken) (within : i < length ts) (read : t ≡ get_or ts i t) (rows : KeptRows) (h : IsGathered goes (length columns) most rows (take i ts)) where
    few_here : HasFewPlaces t.amount
    few_here = few_at ts i t within read few

    places_here : (q : List ℕ) → places_at q t.amount ≤ places_in q ts
    places_here q = subst (λ (all : List Taken). places_at q t.amount ≤ places_in q all) (sym (around ts i t within read)) (next_within (take i ts) (drop (i + 1) ts) t q)

    small_here : (q : List ℕ) → turnover_in q (take i ts) + unsigned_abs (share_in q t.amount) < 2 ^ 127 * 10 ^ (36 - places_in q ts)
    small_here q =
        subst (λ (all : List Taken). turnover_in q (take i ts) + unsigned_abs (share_in q t.amount) < 2 ^ 127 * 10 ^ (36 - places_in q all)) (sym (around ts i t within read))
        (next_small (take i ts) (drop (i + 1) ts) t (subst TurnoverFits (around ts i t within read) fits) q)

    module _ (at : Option ℕ) (is : at ≡ place reach columns t.day) where
      pub row_next : (width : ℕ) → width ≡ length columns → PlacedFits at t.amount (row_at width t.account rows)
      row_next width same =
          subst (λ (o : Option ℕ). PlacedFits o t.amount (row_at width t.account rows)) (sym is)
          (subst (λ w. PlacedFits (goes t) t.amount (row_at w t.account rows)) (sym same)
          (row_fits goes (length columns) most rows (take i ts) t h few_here places_here (place-within reach columns t.day) small_here))

      pub gathered_next : (width : ℕ) → width ≡ length columns → (new_rows : KeptRows) → new_rows ≡ row_with width at t rows → IsGathered goes (length columns) most new_rows (take (i + 1) ts)
      gathered_next width same new_rows rows_is =
          let done : take (i + 1) ts ≡ take i ts ++ t ∷ [] = take_more ts i t within ∙ ap (λ x. take i ts ++ x ∷ []) (sym read) in
          let of_rows : new_rows ≡ row_with (length columns) (goes t) t rows =
          rows_is ∙ ap (λ w. row_with w at t rows) same ∙ ap (λ (o : Option ℕ). row_with (length columns) o t rows) is in
          subst (λ (r : KeptRows). IsGathered goes (length columns) most r (take (i + 1) ts)) (sym of_rows)
          (subst (IsGathered goes (length columns) most (row_with (length columns) (goes t) t rows)) (sym done)
          (gathered_more goes (length columns) most rows (take i ts) t h few_here places_here))
