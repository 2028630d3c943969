-- What comes before a place that isn't after a transaction doesn't change with it.
use Rattle.std.proofs.Common.{◌≡◌, ℕ, ℤ, zero, suc, ◌+◌, ◌<◌, not, Bool, true, false, ◌&&◌, ◌||◌, cond, eqb, ltb, List, [], ◌∷◌, ◌++◌, map, filter, set, slice_get, Some, refl, sym, ap, subst, ◌∙◌, arith}
use Rattle.std.specs.Prelude.{unwrap_or}
use Rattle.std.specs.List.{AllByRecursion, find}
use Rattle.std.specs.Option.{option_map}
use Rattle.std.specs.Str.{bytes_eq}
use Rattle.book.specs.Sums.{mixed_of, sum_of}
use Rattle.std.proofs.lemmas.Bool.{false≢true}
use Rattle.std.proofs.lemmas.Bool.Decides.{nat_tests}
use Rattle.std.proofs.lemmas.List.Elements.{filter-append}
use Rattle.std.proofs.lemmas.Option.{none-some, same_Some}
use Rattle.book.specs.SumsBefore.{Place, is_before, is_of, number_in, other_before, placed_from, placed_in, postings_before, sum_before}
use Rattle.book.specs.declared.transaction.Posting.{Posting}
use Rattle.book.specs.declared.transaction.Txn.{Txn}
use Rattle.placed_sums.specs.Replaced.{IsWithin}
use Rattle.placed_sums.proofs.Telling.{Entry}

-- a later posting of a transaction isn't before a place either
later_not : (a b c e x y : Bool) → (y ≡ true → x ≡ true) → (a || (b && (c || (e && x)))) ≡ false → (a || (b && (c || (e && y)))) ≡ false
later_not true b c e x y f h = h
later_not false false c e x y f h = refl
later_not false true true e x y f h = h
later_not false true false false x y f h = refl
later_not false true false true true y f h = absurd (false≢true (sym h))
later_not false true false true false true f h = absurd (false≢true (f refl))
later_not false true false true false false f h = refl

above_none : (j n : ℕ) → ltb j n ≡ true → ltb 0 n ≡ true
above_none j n h = grind (arith, nat_tests)

module _ (place : Place) (account : List ℕ) (below : Bool) (day n : ℕ) (not_after : is_before (record { day = day; txn = n; posting = 0 }) place ≡ false) where
  abbrev counted : Entry → Bool
  counted e = is_before e.0 place && is_of account below e.1.account

  none_before : (j : ℕ) → is_before (record { day = day; txn = n; posting = j }) place ≡ false
  none_before j = later_not (ltb day place.day) (eqb day place.day) (ltb n place.txn) (eqb n place.txn) (ltb 0 place.posting) (ltb j place.posting) (above_none j place.posting) not_after

  none_counted : (t : Txn) (k : ℕ) (ps : List Posting) → AllByRecursion (λ p. (unwrap_or p.day t.day).0 ≡ day) ps → filter counted (placed_in t n k ps) ≡ []
  none_counted t k [] h = refl
  none_counted t k (p ∷ ps) h =
      let rest = filter counted (placed_in t n (suc k) ps) in
      let at : Place = record { day = (unwrap_or p.day t.day).0; txn = n; posting = number_in t k p } in
      ap (λ (d : ℕ). cond (is_before (record { day = d; txn = n; posting = number_in t k p }) place && is_of account below p.account) ((at, p) ∷ rest) rest) h.0
      ∙ ap (λ (b : Bool). cond (b && is_of account below p.account) ((at, p) ∷ rest) rest) (none_before (number_in t k p))
      ∙ none_counted t (suc k) ps h.1

  without : (t : Txn) (es : List Entry) → IsWithin day t → filter counted (placed_in t n 0 t.postings ++ es) ≡ filter counted es
  without t es h = filter-append counted (placed_in t n 0 t.postings) es ∙ ap (λ (xs : List Entry). xs ++ filter counted es) (none_counted t 0 t.postings h)

  same_from : (m k : ℕ) (ts : List Txn) (old new : Txn) → m + k ≡ n → slice_get ts k ≡ Some old → IsWithin day old → IsWithin day new → filter counted (placed_from m (set ts k new)) ≡ filter counted (placed_from m ts)
  same_from m k [] old new on h of_old of_new = absurd (none-some old h)
  same_from m zero (t ∷ ts) old new on h of_old of_new =
      let here : m ≡ n = omega (arith, on) in
      let same : old ≡ t = sym (same_Some t old h) in
      ap (λ (x : ℕ). filter counted (placed_in new x 0 new.postings ++ placed_from (suc m) ts)) here
      ∙ without new (placed_from (suc m) ts) of_new
      ∙ sym (without t (placed_from (suc m) ts) (subst (IsWithin day) same of_old))
      ∙ sym (ap (λ (x : ℕ). filter counted (placed_in t x 0 t.postings ++ placed_from (suc m) ts)) here)
  same_from m (suc k) (t ∷ ts) old new on h of_old of_new =
      filter-append counted (placed_in t m 0 t.postings) (placed_from (suc m) (set ts k new))
      ∙ ap (λ (xs : List Entry). filter counted (placed_in t m 0 t.postings) ++ xs) (same_from (suc m) k ts old new (omega (arith, on)) h of_old of_new)
      ∙ sym (filter-append counted (placed_in t m 0 t.postings) (placed_from (suc m) ts))

pub same_before : (book : List Txn) (number day : ℕ) (old new : Txn) (place : Place) (account : List ℕ) (below : Bool) → slice_get book number ≡ Some old → IsWithin day old → IsWithin day new → is_before (record { day = day; txn = number; posting = 0 }) place ≡ false → postings_before (set book number new) account below place ≡ postings_before book account below place
same_before book number day old new place account below h of_old of_new not_after =
    let on : 0 + number ≡ number = omega arith in
    ap (map (λ (e : Entry). e.1)) (same_from place account below day number not_after 0 number book old new on h of_old of_new)

pub sum_same : (book : List Txn) (number day : ℕ) (old new : Txn) (place : Place) (account symbol : List ℕ) (below : Bool) → slice_get book number ≡ Some old → IsWithin day old → IsWithin day new → is_before (record { day = day; txn = number; posting = 0 }) place ≡ false → sum_before (set book number new) account symbol below place ≡ sum_before book account symbol below place
sum_same book number day old new place account symbol below h of_old of_new not_after = ap (sum_of symbol) (same_before book number day old new place account below h of_old of_new not_after)

pub other_same : (book : List Txn) (number day : ℕ) (old new : Txn) (place : Place) (account symbol : List ℕ) (below : Bool) → slice_get book number ≡ Some old → IsWithin day old → IsWithin day new → is_before (record { day = day; txn = number; posting = 0 }) place ≡ false → other_before (set book number new) account symbol below place ≡ other_before book account symbol below place
other_same book number day old new place account symbol below h of_old of_new not_after =
    ap (λ (ps : List Posting). option_map (λ (sum : List ℕ × ℤ). sum.0) (find (λ (sum : List ℕ × ℤ). not (bytes_eq sum.0 symbol)) (mixed_of ps))) (same_before book number day old new place account below h of_old of_new not_after)
