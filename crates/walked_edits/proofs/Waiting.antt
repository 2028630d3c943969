-- Forms that are out of a book.
use Rattle.std.proofs.Common.{◌≡◌, ℕ, zero, suc, ◌+◌, ◌<◌, ◌≤◌, ◌==◌, nat_lt, Bool, true, false, ◌&&◌, ◌||◌, cond, ◌⊎◌, inl, inr, List, [], ◌∷◌, ◌++◌, filter, length, set, slice_get, Some, refl, sym, ap, ◌∙◌, arith}
use Rattle.std.specs.Prelude.{unwrap_or}
use Rattle.std.specs.List.{AllByRecursion, list_all, list_any}
use Rattle.std.proofs.lemmas.Bool.{cases_Bool, cases_lt, eq-eqb, eqb-true, false≢true, ne_eqb, or_cases}
use Rattle.std.proofs.lemmas.Bool.Decides.{Decides-ltb, nat_tests}
use Rattle.std.proofs.lemmas.List.{length-set, set-set, set_comm}
use Rattle.std.proofs.lemmas.List.Folds.{list_all-append}
use Rattle.std.proofs.lemmas.Option.{none-some, same_Some}
use Rattle.book.specs.declared.transaction.Posting.{Posting}
use Rattle.book.specs.declared.transaction.Txn.{Txn}
use Rattle.placed_sums.specs.Numbers.{earlier_on, has_on, is_on, numbers_from}
use Rattle.placed_sums.proofs.Daily.{txn_head}
use Rattle.reached_walk.specs.declared.place.Spot.{Spot}
use Rattle.reached_walk.specs.Spots.{AreOnce, Rise, holds, is_before}
use Rattle.watchers.proofs.Tests.{and-first, and-second, or-first, or-none, or-second}
use Rattle.walked_edits.specs.Forms.{put_back, spots_of, vacant}
use Rattle.walked_edits.specs.Walking.{IsOut}
use Rattle.walked_edits.specs.declared.replaced.Replaced.{Replaced}
use Rattle.walked_edits.proofs.Gets.{get_other}

pub back_size : (book : List Txn) (forms : List Replaced) → length (put_back book forms) ≡ length book
back_size book [] = refl
back_size book (r ∷ forms) = length-set (put_back book forms) r.spot.number r.txn ∙ back_size book forms

pub put_other : (book : List Txn) (forms : List Replaced) (n : ℕ) → holds (spots_of forms) n ≡ false → slice_get (put_back book forms) n ≡ slice_get book n
put_other book [] n h = refl
put_other book (r ∷ forms) n h =
    get_other (put_back book forms) r.spot.number n r.txn (λ e. false≢true (sym (or-first (r.spot.number == n) (holds (spots_of forms) n) h) ∙ eq-eqb r.spot.number n e))
    ∙ put_other book forms n (or-second (r.spot.number == n) (holds (spots_of forms) n) h)

pub put_set : (book : List Txn) (forms : List Replaced) (n : ℕ) (x : Txn) → holds (spots_of forms) n ≡ false → put_back (set book n x) forms ≡ set (put_back book forms) n x
put_set book [] n x h = refl
put_set book (r ∷ forms) n x h =
    ap (λ (b : List Txn). set b r.spot.number r.txn) (put_set book forms n x (or-second (r.spot.number == n) (holds (spots_of forms) n) h))
    ∙ set_comm (put_back book forms) n r.spot.number x r.txn (λ e. false≢true (sym (or-first (r.spot.number == n) (holds (spots_of forms) n) h) ∙ eq-eqb r.spot.number n (sym e)))

set_over : (book : List Txn) (n m : ℕ) (x y : Txn) → m ≡ n → set (set book n x) m y ≡ set book m y
set_over book n m x y e = ap (λ (k : ℕ). set (set book k x) m y) (sym e) ∙ set-set book m x y

-- what stands where a form is put back doesn't matter
pub back_over : (book : List Txn) (forms : List Replaced) (n : ℕ) (x : Txn) → holds (spots_of forms) n ≡ true → put_back (set book n x) forms ≡ put_back book forms
back_over book [] n x h = absurd (false≢true h)
back_over book (r ∷ forms) n x h =
    elim (cases_Bool (holds (spots_of forms) n)) as (λ _. put_back (set book n x) (r ∷ forms) ≡ put_back book (r ∷ forms)) [
      | inl on ↦ ap (λ (b : List Txn). set b r.spot.number r.txn) (back_over book forms n x on)
      | inr off ↦
          ap (λ (b : List Txn). set b r.spot.number r.txn) (put_set book forms n x off)
          ∙ set_over (put_back book forms) n r.spot.number x r.txn (eqb-true r.spot.number n (here (r.spot.number == n) (holds (spots_of forms) n) off h))
    ]
  where
    here : (a b : Bool) → b ≡ false → (a || b) ≡ true → a ≡ true
    here true b e k = refl
    here false b e k = absurd (false≢true (sym e ∙ k))

-- ---- places

-- of places that rise each stands between those before it and those behind it
pub rise_mid : (xs ys : List Spot) (s : Spot) → Rise (xs ++ s ∷ ys) → AllByRecursion (λ (x : Spot). is_before x s ≡ true) xs × (list_all (is_before s) ys ≡ true)
rise_mid [] ys s h = (tt, h.0)
rise_mid (x ∷ xs) ys s h =
    let rest = rise_mid xs ys s h.1 in (
      (
        and-first (is_before x s) (list_all (is_before x) ys) (and-second (list_all (is_before x) xs) (list_all (is_before x) (s ∷ ys)) (sym (list_all-append (is_before x) xs (s ∷ ys)) ∙ h.0)),
        rest.0,
      ),
      rest.1,
    )

none_mid : (xs ys : List Spot) (s : Spot) (n : ℕ) → holds (xs ++ s ∷ ys) n ≡ false → (s.number ≡ n → ⊥)
none_mid [] ys s n h e = false≢true (sym (or-first (s.number == n) (holds ys n) h) ∙ eq-eqb s.number n e)
none_mid (x ∷ xs) ys s n h e = none_mid xs ys s n (or-second (x.number == n) (holds (xs ++ s ∷ ys) n) h) e

-- and has another number than all of them
pub once_mid : (xs ys : List Spot) (s : Spot) → AreOnce (xs ++ s ∷ ys) → AllByRecursion (λ (x : Spot). s.number ≡ x.number → ⊥) xs × (holds ys s.number ≡ false) × AreOnce ys
once_mid [] ys s h = (tt, h.0, h.1)
once_mid (x ∷ xs) ys s h =
    let rest = once_mid xs ys s h.1 in
    ((none_mid xs ys s x.number h.0, rest.0), rest.1, rest.2)

-- a later place of a lower number is on another day
pub later_day : (s t : Spot) → is_before s t ≡ true → t.number < s.number → t.day.0 ≡ s.day.0 → ⊥
later_day s t before less same = by (or_cases (nat_lt s.day.0 t.day.0) ((s.day.0 == t.day.0) && nat_lt s.number t.number) before)
  where
    by : (nat_lt s.day.0 t.day.0 ≡ true) ⊎ (((s.day.0 == t.day.0) && nat_lt s.number t.number) ≡ true) → ⊥
    by (inl e) = let l = (Decides-ltb s.day.0 t.day.0).0 e in absurd (omega (arith, l, same))
    by (inr e) = let l = (Decides-ltb s.number t.number).0 (and-second (s.day.0 == t.day.0) (nat_lt s.number t.number) e) in absurd (omega (arith, l, less))

-- ---- which transactions stand before a place on its day

off_below : (a b : ℕ) → b ≤ a → nat_lt a b ≡ false
off_below a b h = grind (arith, nat_tests)

within_off : (d day : ℕ) (t : Txn) (ps : List Posting) → AllByRecursion (λ p. (unwrap_or p.day t.day).0 ≡ day) ps → (day ≡ d → ⊥) → list_any (is_on d t) ps ≡ false
within_off d day t [] h apart = refl
within_off d day t (p ∷ ps) h apart =
    or-none (is_on d t p) (list_any (is_on d t) ps) (ne_eqb (unwrap_or p.day t.day).0 d (λ e. apart (sym h.0 ∙ e))) (within_off d day t ps h.1 apart)

module _ (d k : ℕ) where
  abbrev below : List ℕ → List ℕ
  below ns = filter (λ n. nat_lt n k) ns

  drop_head : (m : ℕ) (ns : List ℕ) → k ≤ m → (b : Bool) → below (cond b (m ∷ ns) ns) ≡ below ns
  drop_head m ns h true = ap (λ (c : Bool). cond c (m ∷ below ns) (below ns)) (off_below m k h)
  drop_head m ns h false = refl

  same_head : (m : ℕ) (ns ks : List ℕ) → below ns ≡ below ks → (b : Bool) → below (cond b (m ∷ ns) ns) ≡ below (cond b (m ∷ ks) ks)
  same_head m ns ks h true = ap (λ (xs : List ℕ). cond (nat_lt m k) (m ∷ xs) xs) h
  same_head m ns ks h false = h

  earlier_set : (m n : ℕ) (ts : List Txn) (x old : Txn) → slice_get ts n ≡ Some old → (m + n < k → has_on d x ≡ has_on d old) → below (numbers_from d m (set ts n x)) ≡ below (numbers_from d m ts)
  earlier_set m n [] x old got same = absurd (none-some old got)
  earlier_set m zero (t ∷ ts) x old got same =
      ap below (txn_head d m x ts)
      ∙ (elim (cases_lt m k) as (λ _. below (cond (has_on d x) (m ∷ numbers_from d (suc m) ts) (numbers_from d (suc m) ts)) ≡ below (cond (has_on d t) (m ∷ numbers_from d (suc m) ts) (numbers_from d (suc m) ts))) [
        | inl less ↦ ap (λ (b : Bool). below (cond b (m ∷ numbers_from d (suc m) ts) (numbers_from d (suc m) ts))) (same (omega (arith, less)) ∙ ap (has_on d) (sym (same_Some t old got)))
        | inr more ↦ drop_head m (numbers_from d (suc m) ts) more (has_on d x) ∙ sym (drop_head m (numbers_from d (suc m) ts) more (has_on d t))
      ])
      ∙ sym (ap below (txn_head d m t ts))
  earlier_set m (suc n) (t ∷ ts) x old got same =
      ap below (txn_head d m t (set ts n x))
      ∙ same_head m (numbers_from d (suc m) (set ts n x)) (numbers_from d (suc m) ts) (earlier_set (suc m) n ts x old got (λ less. same (omega (arith, less)))) (has_on d t)
      ∙ sym (ap below (txn_head d m t ts))

  pub earlier_back : (book : List Txn) (out : List Replaced) → AreOnce (spots_of out) → AllByRecursion (IsOut book) out → AllByRecursion (λ (r : Replaced). r.spot.number < k → r.spot.day.0 ≡ d → ⊥) out → earlier_on d k (put_back book out) ≡ earlier_on d k book
  earlier_back book [] once held late = refl
  earlier_back book (r ∷ out) once held late =
      earlier_set 0 r.spot.number (put_back book out) r.txn (vacant r.spot.day) (put_other book out r.spot.number once.0 ∙ held.0.held)
      (λ less. within_off d r.spot.day.0 r.txn r.txn.postings held.0.within (late.0 (omega (arith, less))))
      ∙ earlier_back book out once.1 held.1 late.1
