-- Takings without those whose symbols are out of range.
use Rattle.std.proofs.Common.{◌≡◌, ℕ, pos, ◌+◌, ◌*◌, ◌-◌, ◌^◌, max, unsigned_abs, Bool, true, false, not, ◌||◌, cond, nat_le, List, [], ◌∷◌, ◌++◌, filter, find, Option, Some, None, inl, inr, refl, sym, ap, subst, ◌∙◌, arith}
use Rattle.std.specs.Ordering.{nat_cmp, is_eq, eq_by_cmp}
use Rattle.std.specs.Cmp.Lexicographic.{slice_cmp, nat_list_cmp_total}
use Rattle.std.specs.List.{flat_map, list_any}
use Rattle.std.specs.Str.{bytes_eq}
use Rattle.std.proofs.lemmas.Cmp.{tied_itself}
use Rattle.hl_num.specs.Decimal.{units_of}
use Rattle.book.proofs.Order.{is_equal, contains-each_once}
use Rattle.prices.proofs.Texts.{text_ties, same_text, told, true≢false}
use Rattle.report_cells.specs.Taken.{Shared, Taken, share_in, symbol_of, symbols_in}
use Rattle.report_cells.specs.Bounds.{turnover_in, places_at, places_in, is_out, first_out}
use Rattle.report_values.specs.Cells.{fits_in, fitting}

pub some_none : {X : Type 0} (x : X) → Some x ≡ None → ⊥
some_none x h = cc

-- a symbol is among some
abbrev among : List ℕ → List (List ℕ) → Bool
among q symbols = list_any (eq_by_cmp (slice_cmp nat_cmp) q) symbols

itself : (q : List ℕ) → eq_by_cmp (slice_cmp nat_cmp) q q ≡ true
itself q = ap is_eq (tied_itself nat_list_cmp_total q)

tied : (q k : List ℕ) → eq_by_cmp (slice_cmp nat_cmp) q k ≡ true → q ≡ k
tied q k e = text_ties q k (is_equal _ e)

or_true : (a b : Bool) → b ≡ true → (a || b) ≡ true
or_true true b e = refl
or_true false b e = e

-- ---- what is found of symbols

find_none : (p : List ℕ → Bool) (ks : List (List ℕ)) → find p ks ≡ None → (q : List ℕ) → among q ks ≡ true → p q ≡ false
find_none p [] none q there = absurd (true≢false (sym there))
find_none p (k ∷ ks) none q there =
    elim (p k) as (λ b. p k ≡ b → cond b (Some k) (find p ks) ≡ None → p q ≡ false) [
      | true ↦ λ e n. absurd (some_none k n)
      | false ↦ λ e n.
          elim (eq_by_cmp (slice_cmp nat_cmp) q k) as (λ c. eq_by_cmp (slice_cmp nat_cmp) q k ≡ c → (c || among q ks) ≡ true → p q ≡ false) [
            | true ↦ λ t m. ap p (tied q k t) ∙ e
            | false ↦ λ t m. find_none p ks n q m
          ] refl there
    ] refl none

none_found : (p : List ℕ → Bool) (ks : List (List ℕ)) → ((q : List ℕ) → among q ks ≡ true → p q ≡ false) → find p ks ≡ None
none_found p [] each = refl
none_found p (k ∷ ks) each =
    ap (λ (b : Bool). cond b (Some k) (find p ks)) (each k (ap (λ (b : Bool). b || among k ks) (itself k)))
    ∙ none_found p ks (λ q m. each q (or_true (eq_by_cmp (slice_cmp nat_cmp) q k) (among q ks) m))

-- the symbols of some takings
abbrev written : List Taken → List (List ℕ)
written ts = flat_map (λ (t : Taken). symbol_of t.amount) ts

in_symbols : (q : List ℕ) (ts : List Taken) → among q (symbols_in ts) ≡ among q (written ts)
in_symbols q ts = contains-each_once text_ties (written ts) q

-- ---- where no symbol is out of range

module _ (all : List Taken) where
  -- none of some symbols is out of range
  abbrev NoneOut : List (List ℕ) → Type 0
  NoneOut symbols = (q : List ℕ) → among q symbols ≡ true → is_out all q ≡ false

  first_fits : (a : Option Shared) (more : List (List ℕ)) → NoneOut (symbol_of a ++ more) → fits_in all a ≡ true
  first_fits None more h = refl
  first_fits (Some share) more h = ap not (h share.0 (ap (λ (b : Bool). b || among share.0 more) (itself share.0)))

  rest_fits : (a : Option Shared) (more : List (List ℕ)) → NoneOut (symbol_of a ++ more) → NoneOut more
  rest_fits None more h = h
  rest_fits (Some share) more h = λ q m. h q (or_true (eq_by_cmp (slice_cmp nat_cmp) q share.0) (among q more) m)

  all_kept : (ts : List Taken) → NoneOut (written ts) → filter (λ (t : Taken). fits_in all t.amount) ts ≡ ts
  all_kept [] h = refl
  all_kept (t ∷ ts) h =
      ap (λ (b : Bool). cond b (t ∷ filter (λ (t : Taken). fits_in all t.amount) ts) (filter (λ (t : Taken). fits_in all t.amount) ts)) (first_fits t.amount (written ts) h)
      ∙ ap (λ (rest : List Taken). t ∷ rest) (all_kept ts (rest_fits t.amount (written ts) h))

  -- ---- what is left out

  not_true : (b : Bool) → not b ≡ true → b ≡ false
  not_true true h = absurd (true≢false (sym h))
  not_true false h = refl

  symbol_in_range : (a : Option Shared) (q : List ℕ) (more : List (List ℕ)) → fits_in all a ≡ true → among q (symbol_of a ++ more) ≡ true → (among q more ≡ true → is_out all q ≡ false) → is_out all q ≡ false
  symbol_in_range None q more fits m rest = rest m
  symbol_in_range (Some share) q more fits m rest =
      elim (eq_by_cmp (slice_cmp nat_cmp) q share.0) as (λ c. eq_by_cmp (slice_cmp nat_cmp) q share.0 ≡ c → (c || among q more) ≡ true → is_out all q ≡ false) [
        | true ↦ λ t k. ap (is_out all) (tied q share.0 t) ∙ not_true (is_out all share.0) fits
        | false ↦ λ t k. rest k
      ] refl m

  -- a symbol that is left is in range
  left_in_range : (ts : List Taken) (q : List ℕ) → among q (written (filter (λ (t : Taken). fits_in all t.amount) ts)) ≡ true → is_out all q ≡ false
  left_in_range [] q m = absurd (true≢false (sym m))
  left_in_range (t ∷ ts) q m =
      elim (fits_in all t.amount) as (λ b. fits_in all t.amount ≡ b → among q (written (cond b (t ∷ filter (λ (t : Taken). fits_in all t.amount) ts) (filter (λ (t : Taken). fits_in all t.amount) ts))) ≡ true → is_out all q ≡ false) [
        | true ↦ λ e k. symbol_in_range t.amount q (written (filter (λ (t : Taken). fits_in all t.amount) ts)) e k (left_in_range ts q)
        | false ↦ λ e k. left_in_range ts q k
      ] refl m

  -- an amount that is left out is of another symbol
  no_share : (a : Option Shared) (q : List ℕ) → fits_in all a ≡ false → is_out all q ≡ false → (unsigned_abs (share_in q a) ≡ 0) × (places_at q a ≡ 0)
  no_share None q gone here = absurd (true≢false gone)
  no_share (Some share) q gone here = by (bytes_eq share.0 q) refl
    where
      by : (b : Bool) → bytes_eq share.0 q ≡ b → (unsigned_abs (cond b (units_of share.1) (pos 0)) ≡ 0) × (cond b share.1.places 0 ≡ 0)
      by true e = absurd (true≢false (sym (ap not (ap (is_out all) (same_text share.0 q e) ∙ here)) ∙ gone))
      by false e = (refl, refl)

  -- what is left of a symbol in range is all of it
  same_turnover : (ts : List Taken) (q : List ℕ) → is_out all q ≡ false → turnover_in q (filter (λ (t : Taken). fits_in all t.amount) ts) ≡ turnover_in q ts
  same_turnover [] q here = refl
  same_turnover (t ∷ ts) q here =
      elim (fits_in all t.amount) as (λ b. fits_in all t.amount ≡ b → turnover_in q (cond b (t ∷ filter (λ (t : Taken). fits_in all t.amount) ts) (filter (λ (t : Taken). fits_in all t.amount) ts)) ≡ turnover_in q (t ∷ ts)) [
        | true ↦ λ e. ap (λ n. unsigned_abs (share_in q t.amount) + n) (same_turnover ts q here)
        | false ↦ λ e. omega (arith, same_turnover ts q here, (no_share t.amount q e here).0)
      ] refl

  same_places : (ts : List Taken) (q : List ℕ) → is_out all q ≡ false → places_in q (filter (λ (t : Taken). fits_in all t.amount) ts) ≡ places_in q ts
  same_places [] q here = refl
  same_places (t ∷ ts) q here =
      elim (fits_in all t.amount) as (λ b. fits_in all t.amount ≡ b → places_in q (cond b (t ∷ filter (λ (t : Taken). fits_in all t.amount) ts) (filter (λ (t : Taken). fits_in all t.amount) ts)) ≡ places_in q (t ∷ ts)) [
        | true ↦ λ e. ap (λ n. max (places_at q t.amount) n) (same_places ts q here)
        | false ↦ λ e. omega (arith, same_places ts q here, (no_share t.amount q e here).1)
      ] refl

-- where none is out of range, all fit
pub all_fit : (ts : List Taken) → first_out ts ≡ None → fitting ts ≡ ts
all_fit ts none = all_kept ts ts (λ q m. find_none (is_out ts) (symbols_in ts) none q (in_symbols q ts ∙ m))

still_in_range : (ts : List Taken) (q : List ℕ) → is_out ts q ≡ false → is_out (fitting ts) q ≡ false
still_in_range ts q here =
    ap (λ n. nat_le (2 ^ 127 * 10 ^ (36 - places_in q (fitting ts))) n) (same_turnover ts ts q here)
    ∙ ap (λ n. nat_le (2 ^ 127 * 10 ^ (36 - n)) (turnover_in q ts)) (same_places ts ts q here)
    ∙ here

-- of those that fit none is out of range
pub none_left : (ts : List Taken) → first_out (fitting ts) ≡ None
none_left ts =
    none_found (is_out (fitting ts)) (symbols_in (fitting ts))
    (λ q m. still_in_range ts q (left_in_range ts ts q (sym (in_symbols q (fitting ts)) ∙ m)))
