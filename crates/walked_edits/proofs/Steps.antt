-- One step of a walk: a reached transaction gets the form that was found for it.
use Rattle.std.proofs.Common.{◌≡◌, ℕ, ◌<◌, ◌≤◌, ◌==◌, nat_lt, Bool, true, false, ◌&&◌, ◌||◌, not, List, [], ◌∷◌, ◌++◌, length, set, slice_get, Some, ◌⊎◌, inl, inr, refl, sym, ◌∙◌, arith}
use Rattle.std.specs.Prelude.{unwrap_or}
use Rattle.std.specs.List.{AllByRecursion}
use Rattle.std.proofs.lemmas.Bool.{eqb-true, false≢true, or_cases}
use Rattle.std.proofs.lemmas.Bool.Decides.{Decides-ltb, nat_tests}
use Rattle.book.specs.SumsBefore as sums
use Rattle.book.specs.declared.transaction.Posting.{Posting}
use Rattle.book.specs.declared.transaction.Txn.{Txn}
use Rattle.placed_sums.specs.Replaced.{IsWithin}
use Rattle.placed_sums.proofs.Walking.{same_before}
use Rattle.reached_walk.specs.declared.place.Spot.{Spot}
use Rattle.reached_walk.specs.Apart.{is_apart, is_dated}
use Rattle.reached_walk.specs.Spots.{is_before, AreOnce}
use Rattle.reached_walk.proofs.Lists.{all-map, none-all}
use Rattle.reached_walk.proofs.Passing.{holds-last}
use Rattle.watchers.proofs.Tests.{and-first, and-second}
use Rattle.walked_edits.specs.Scenes.{Scene}
use Rattle.walked_edits.specs.Solving.{is_at, place_at}
use Rattle.walked_edits.specs.Walking.{IsRight, IsSolvedBy}
use Rattle.walked_edits.proofs.Gets.{get_other, get_set}

-- ---- places

not_true : (b : Bool) → not b ≡ true → b ≡ false
not_true true h = absurd (false≢true h)
not_true false h = refl

-- a form that stands at a place has all its postings on its day
pub at_within : (spot : Spot) (t : Txn) → is_at spot t ≡ true → IsWithin spot.day.0 t
at_within spot t h =
    all-map (λ (p : Posting). is_apart t p ≡ false) (λ (p : Posting). (unwrap_or p.day t.day).0 ≡ spot.day.0)
    (λ p apart. same_day p apart ∙ day) t.postings
    (none-all (is_apart t) t.postings (not_true (is_dated t) (and-second (t.day.0 == spot.day.0) (not (is_dated t)) h)))
  where
    day : t.day.0 ≡ spot.day.0
    day = eqb-true t.day.0 spot.day.0 (and-first (t.day.0 == spot.day.0) (not (is_dated t)) h)

    not_false : (b : Bool) → not b ≡ false → b ≡ true
    not_false true k = refl
    not_false false k = absurd (false≢true (sym k))

    same_day : (p : Posting) → is_apart t p ≡ false → (unwrap_or p.day t.day).0 ≡ t.day.0
    same_day p k = eqb-true (unwrap_or p.day t.day).0 t.day.0 (not_false ((unwrap_or p.day t.day).0 == t.day.0) k)

-- what comes later isn't before
none_by : (a b c f : Bool) → a ≡ false → (b ≡ true → c ≡ false) → (a || (b && (c || (f && false)))) ≡ false
none_by true b c f p q = absurd (false≢true (sym p))
none_by false true true f p q = absurd (false≢true (sym (q refl)))
none_by false true false true p q = refl
none_by false true false false p q = refl
none_by false false c f p q = refl

not_less : (a b : ℕ) → b ≤ a → nat_lt a b ≡ false
not_less a b h = grind (arith, nat_tests)

is_less : (a b : ℕ) → nat_lt a b ≡ true → a < b
is_less a b h = (Decides-ltb a b).0 h

later_not : (d n e m : ℕ) → (nat_lt d e || ((d == e) && nat_lt n m)) ≡ true → (nat_lt e d || ((e == d) && (nat_lt m n || ((m == n) && nat_lt 0 0)))) ≡ false
later_not d n e m h = none_by (nat_lt e d) (e == d) (nat_lt m n) (m == n) first second
  where
    cases : (nat_lt d e ≡ true) ⊎ (((d == e) && nat_lt n m) ≡ true)
    cases = or_cases (nat_lt d e) ((d == e) && nat_lt n m) h

    first : nat_lt e d ≡ false
    first =
        elim cases as (λ _. nat_lt e d ≡ false) [
          | inl less ↦ let l = is_less d e less in not_less e d (omega (arith, l))
          | inr same ↦ let q = eqb-true d e (and-first (d == e) (nat_lt n m) same) in not_less e d (omega (arith, q))
        ]

    second : (e == d) ≡ true → nat_lt m n ≡ false
    second back =
        elim cases as (λ _. nat_lt m n ≡ false) [
          | inl less ↦ let l = is_less d e less in let q = eqb-true e d back in absurd (omega (arith, l, q))
          | inr same ↦ let l = is_less n m (and-second (d == e) (nat_lt n m) same) in not_less m n (omega (arith, l))
        ]

pub after_before : (t s : Spot) → is_before t s ≡ true → sums.is_before (place_at s) (place_at t) ≡ false
after_before t s h = later_not t.day.0 t.number s.day.0 s.number h

pub itself_not : (d n : ℕ) → (nat_lt d d || ((d == d) && (nat_lt n n || ((n == n) && nat_lt 0 0)))) ≡ false
itself_not d n = none_by (nat_lt d d) (d == d) (nat_lt n n) (n == n) (not_less d d (omega arith)) (λ _. not_less n n (omega arith))

-- no two have one number
pub once_apart : (spots : List Spot) (s : Spot) → AreOnce (spots ++ s ∷ []) → AllByRecursion (λ (t : Spot). s.number ≡ t.number → ⊥) spots
once_apart [] s h = tt
once_apart (t ∷ spots) s h = (λ e. false≢true (sym h.0 ∙ holds-last spots s t.number e), once_apart spots s h.1)

-- ---- the books

module _ (s : Scene) (book : List Txn) (spot : Spot) (old form : Txn)
    (was : slice_get book spot.number ≡ Some old) (of_old : IsWithin spot.day.0 old) (of_form : IsWithin spot.day.0 form)
    (inside : spot.number < length book) where
  abbrev new : List Txn
  new = set book spot.number form

  -- what was solved before stays so
  pub right_stays : (t : Spot) → IsRight s.written book t → is_before t spot ≡ true → (spot.number ≡ t.number → ⊥) → IsRight s.written new t
  right_stays t h before apart = record {
    written = h.written;
    is = h.is;
    solved = h.solved;
    there = get_other book spot.number t.number form apart ∙ h.there;
    by_book = λ after few got same.
        h.by_book after few got (λ account below.
        sym (same_before book spot.number spot.day.0 old form (place_at t) account below was of_old of_form (after_before t spot before))
        ∙ same account below);
  }

  pub right_here : (written : Txn) → slice_get s.written spot.number ≡ Some written → IsSolvedBy book spot written form → IsRight s.written new spot
  right_here written is by_book = record {
    written = written;
    is = is;
    solved = form;
    there = get_set book spot.number form inside;
    by_book = λ after few got same.
        by_book after few got (λ account below.
        sym (same_before book spot.number spot.day.0 old form (place_at spot) account below was of_old of_form (itself_not spot.day.0 spot.number))
        ∙ same account below);
  }
