-- Forms that are put into a book, one after another.
use Rattle.std.proofs.Common.{◌≡◌, ℕ, zero, suc, ◌+◌, ◌<◌, ◌≤◌, ◌==◌, ◌||◌, Bool, true, false, List, [], ◌∷◌, ◌++◌, length, set, drop, get_or, slice_get, Some, refl, sym, ap, subst, ◌∙◌, arith}
use Rattle.std.specs.List.{AllByRecursion}
use Rattle.std.proofs.lemmas.Bool.{false≢true}
use Rattle.std.proofs.lemmas.Bool.Decides.{nat_tests}
use Rattle.std.proofs.lemmas.List.{drop-drop, drop-set, drop_all, length-set}
use Rattle.std.proofs.lemmas.Option.{slice_get-get_or}
use Rattle.book.specs.declared.item.Placed.{Placed}
use Rattle.book.specs.declared.transaction.Txn.{Txn}
use Rattle.reached_walk.specs.Spots.{AreOnce, holds}
use Rattle.reached_walk.specs.declared.place.Spot.{Spot}
use Rattle.walked_edits.specs.Forms.{IsInside, put_forms, spots_of}
use Rattle.walked_edits.specs.declared.replaced.Replaced.{Replaced}
use Rattle.walked_edits.proofs.Gets.{all_got, all_set, get_other}
use Rattle.kept_texts.specs.Keeping.{IsWith}
use Rattle.kept_texts.specs.declared.edited.Edited.{Edited}
use Rattle.walked_texts.specs.Making.{TakesIn}

-- ---- the form at an index

pub drop_one : (xs : List Replaced) (i : ℕ) (d : Replaced) → i < length xs → d ≡ get_or xs i d → drop i xs ≡ d ∷ drop (i + 1) xs
drop_one [] i d lt is = absurd (omega (arith, lt))
drop_one (x ∷ xs) zero d lt is = ap (λ (y : Replaced). y ∷ xs) (sym is)
drop_one (x ∷ xs) (suc i) d lt is =
    let one : suc (i + 1) ≡ suc i + 1 = omega arith in
    drop_one xs i d (omega (arith, lt)) is ∙ ap (λ (n : ℕ). d ∷ drop n (x ∷ xs)) one

pub inside_at : (book : List Txn) (forms : List Replaced) (i : ℕ) (r : Replaced) → AllByRecursion (IsInside book) forms → i < length forms → r ≡ get_or forms i r → r.spot.number < length book
inside_at book forms i r h lt read = all_got (IsInside book) forms i r h (slice_get-get_or forms i r lt ∙ ap (λ (x : Replaced). Some x) (sym read))

-- ---- a transaction of a book, or one behind it

pub stood : (txns : List Txn) (n : ℕ) (t : Txn) → n < length txns → t ≡ get_or txns n t → slice_get txns n ≡ Some t
stood txns n t lt is = slice_get-get_or txns n t lt ∙ ap (λ (x : Txn). Some x) (sym is)

pub front_found : (front back : List Txn) (n : ℕ) (t : Txn) → n < length front → slice_get front n ≡ Some t → slice_get (front ++ back) n ≡ Some t
front_found [] back n t lt got = absurd (omega (arith, lt))
front_found (f ∷ fs) back zero t lt got = got
front_found (f ∷ fs) back (suc n) t lt got = front_found fs back n t (omega (arith, lt)) got

pub back_found : (front back : List Txn) (n m : ℕ) (t : Txn) → n ≡ length front + m → slice_get back m ≡ Some t → slice_get (front ++ back) n ≡ Some t
back_found [] back n m t e got = let same : n ≡ m = omega (arith, e) in ap (slice_get back) same ∙ got
back_found (f ∷ fs) back zero m t e got = absurd (omega (arith, e))
back_found (f ∷ fs) back (suc n) m t e got = back_found fs back n m t (omega (arith, e)) got

-- ---- the forms before one were taken in

-- What an edit makes is of a book in which the forms are still to be put that are left, and which has under their numbers, which
-- differ, what the book with room has there.
pub record IsOn (items : List Placed) (room : List Txn) (forms left : List Replaced) (edited : Edited) : Type 0 where
  pub book : List Txn
  pub kept : IsWith items book edited
  pub put : put_forms book left ≡ put_forms room forms
  pub same : AllByRecursion (λ r. slice_get book r.spot.number ≡ slice_get room r.spot.number) left
  pub once : AreOnce (spots_of left)

abbrev pub GoesOn : List Txn → List Replaced → List Replaced → Edited → Edited → Type 0
GoesOn room forms left begun edited = (items : List Placed) → IsWith items room begun → IsOn items room forms left edited

all_same : (room : List Txn) (forms : List Replaced) → AllByRecursion (λ r. slice_get room r.spot.number ≡ slice_get room r.spot.number) forms
all_same room [] = tt
all_same room (r ∷ forms) = (refl, all_same room forms)

pub on_begins : (room : List Txn) (forms : List Replaced) (begun : Edited) → AreOnce (spots_of forms) → GoesOn room forms forms begun begun
on_begins room forms begun once = λ items h. record { book = room; kept = h; put = refl; same = all_same room forms; once = once }

none_equal : (a b : Bool) → (a || b) ≡ false → a ≡ false
none_equal true b h = absurd (false≢true (sym h))
none_equal false b h = refl

none_further : (a b : Bool) → (a || b) ≡ false → b ≡ false
none_further true b h = absurd (false≢true (sym h))
none_further false b h = h

differs : (n m : ℕ) → (m == n) ≡ false → n ≡ m → ⊥
differs n m h e = grind (arith, nat_tests)

-- a form under another number than those that are left
still_same : (book room : List Txn) (n : ℕ) (t : Txn) (left : List Replaced) → holds (spots_of left) n ≡ false → AllByRecursion (λ r. slice_get book r.spot.number ≡ slice_get room r.spot.number) left
    → AllByRecursion (λ r. slice_get (set book n t) r.spot.number ≡ slice_get room r.spot.number) left
still_same book room n t [] none h = tt
still_same book room n t (r ∷ left) none h = (
  get_other book n r.spot.number t (differs n r.spot.number (none_equal (r.spot.number == n) (holds (spots_of left) n) none)) ∙ h.0,
  still_same book room n t left (none_further (r.spot.number == n) (holds (spots_of left) n) none) h.1,
)

on_put : (room : List Txn) (forms left : List Replaced) (r : Replaced) (begun now new : Edited) → GoesOn room forms (r ∷ left) begun now → TakesIn room r now new → GoesOn room forms left begun new
on_put room forms left r begun now new h takes = λ items start.
    let on = h items start in
    record {
      book = set on.book r.spot.number r.txn;
      kept = takes items on.book on.kept on.same.0;
      put = on.put;
      same = still_same on.book room r.spot.number r.txn left on.once.0 on.same.1;
      once = on.once.1;
    }

pub on_step : (room : List Txn) (forms : List Replaced) (i : ℕ) (r : Replaced) (begun now new : Edited) → i < length forms → r ≡ get_or forms i r → GoesOn room forms (drop i forms) begun now → TakesIn room r now new
    → GoesOn room forms (drop (i + 1) forms) begun new
on_step room forms i r begun now new lt is h takes =
    on_put room forms (drop (i + 1) forms) r begun now new (subst (λ (left : List Replaced). GoesOn room forms left begun now) (drop_one forms i r lt is) h) takes

pub on_done : (room : List Txn) (forms : List Replaced) (i : ℕ) (begun now : Edited) → length forms ≤ i → GoesOn room forms (drop i forms) begun now → (items : List Placed) → IsWith items room begun → IsWith items (put_forms room forms) now
on_done room forms i begun now past h items start =
    let on = subst (λ (left : List Replaced). GoesOn room forms left begun now) (drop_all i forms past) h items start in
    subst (λ (b : List Txn). IsWith items b now) on.put on.kept

-- ---- forms that change places with those of a book

pub record IsIn (at : ℕ) (start now : List Txn) (begun forms : List Replaced) : Type 0 where
  pub inside : AllByRecursion (IsInside now) forms
  pub put : put_forms now (drop at forms) ≡ put_forms start begun

pub in_begins : (start : List Txn) (forms : List Replaced) → AllByRecursion (IsInside start) forms → IsIn 0 start start forms forms
in_begins start forms h = record { inside = h; put = refl }

pub in_inside : (at : ℕ) (start now : List Txn) (begun forms : List Replaced) (r : Replaced) → IsIn at start now begun forms → at < length forms → r ≡ get_or forms at r → r.spot.number < length now
in_inside at start now begun forms r h lt read = inside_at now forms at r h.inside lt read

pub in_step : (at : ℕ) (start now new : List Txn) (begun forms : List Replaced) (r taken : Replaced) → IsIn at start now begun forms → at < length forms → r ≡ get_or forms at r → new ≡ set now r.spot.number r.txn
    → taken.spot ≡ r.spot → IsIn (at + 1) start new begun (set forms at taken)
in_step at start now new begun forms r taken h lt read put spot = record {
  inside = all_set (IsInside new) forms at taken (all_sized now new forms size h.inside) (subst (λ (s : Spot). s.number < length new) (sym spot) (subst (λ (n : ℕ). r.spot.number < n) (sym size) (in_inside at start now begun forms r h lt read)));
  put =
      (λ j. put_forms (put j) (behind j))
      ∙ ap (put_forms now) (sym (drop_one forms at r lt read))
      ∙ h.put;
}
  where
    behind : drop (at + 1) (set forms at taken) ≡ drop (at + 1) forms
    behind = sym (drop-drop 1 at (set forms at taken)) ∙ ap (drop 1) (drop-set forms at taken lt)

    size : length new ≡ length now
    size = ap length put ∙ length-set now r.spot.number r.txn

    all_sized : (a b : List Txn) (xs : List Replaced) → length b ≡ length a → AllByRecursion (IsInside a) xs → AllByRecursion (IsInside b) xs
    all_sized a b [] e k = tt
    all_sized a b (x ∷ xs) e k = (let one = k.0 in omega (arith, e, one), all_sized a b xs e k.1)

pub in_done : (at : ℕ) (start now : List Txn) (begun forms : List Replaced) → IsIn at start now begun forms → length forms ≤ at → now ≡ put_forms start begun
in_done at start now begun forms h all = ap (put_forms now) (sym (drop_all at forms all)) ∙ h.put
