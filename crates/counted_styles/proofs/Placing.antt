-- Items under their places, with more behind them and with another one at a place.
use Rattle.std.proofs.Common.{◌≡◌, ℕ, zero, suc, ◌+◌, ◌<◌, ◌≤◌, ◌==◌, Bool, true, false, ◌&&◌, cond, not, List, [], ◌∷◌, ◌++◌, length, take, get_or, set, Option, Some, None, refl, sym, ap, subst, ◌∙◌, arith}
use Rattle.std.specs.Prelude.{nat_lt, slice_get}
use Rattle.std.proofs.lemmas.Bool.{false≢true}
use Rattle.std.proofs.lemmas.Bool.Decides.{nat_tests}
use Rattle.std.proofs.lemmas.List.{append_assoc, length-append, length-take-le}
use Rattle.book.specs.declared.item.Item.{Item}
use Rattle.book.specs.declared.item.Placed.{Placed}
use Rattle.book.specs.declared.style.Style.{Style}
use Rattle.book.specs.Standing.{Numbered, all_greater, is_free, places_from, with_number, without_number}
use Rattle.book.specs.Style.{commodity_styles, default_styles, first_class, of_symbol, said_in, second_class, style_by, style_of}
use Rattle.book.specs.Styles.{said_standing, style_standing}
use Rattle.counted_styles.specs.declared.styles.CountedStyles.{CountedStyles}
use Rattle.counted_styles.specs.Kept.{AreOf, Stands, at_number}
use Rattle.counted_styles.proofs.Keys.{eq-self}
use Rattle.counted_styles.proofs.Noting.{take-further}
use Rattle.counted_styles.proofs.Reading.{at-below}
use Rattle.counted_styles.proofs.Whole.{free-places, with-past}

both : (a b : Bool) → a ≡ true → b ≡ true → (a && b) ≡ true
both true b p q = q
both false b p q = absurd (false≢true p)

-- ---- one more behind all

placed-behind : (m n : ℕ) (xs : List Placed) (p : Placed) → n ≡ m + length xs → with_number n p.item (places_from m xs) ≡ places_from m (xs ++ p ∷ [])
placed-behind m n [] p e = let same : n ≡ m = omega arith in ap (λ (k : ℕ). (k, p.item) ∷ []) same
placed-behind m n (x ∷ xs) p e =
    with-past n p.item (m, x.item) (places_from (suc m) xs) (not-greater n m (omega arith))
    ∙ ap (λ (t : Numbered Item). (m, x.item) ∷ t) (placed-behind (suc m) n xs p (omega arith))
  where
    not-greater : (n m : ℕ) → m ≤ n → nat_lt n m ≡ false
    not-greater n m le = grind (arith, nat_tests)

pub free-behind : (n : ℕ) (xs : List Placed) → n ≡ length xs → is_free n (places_from 0 xs) ≡ true
free-behind n xs e = free-places 0 n xs (omega arith)

pub are-behind : (xs : List Placed) (p : Placed) (n : ℕ) (styles : CountedStyles) → n ≡ length xs → AreOf (with_number n p.item (places_from 0 xs)) styles → AreOf (places_from 0 (xs ++ p ∷ [])) styles
are-behind xs p n styles e are = subst (λ (es : Numbered Item). AreOf es styles) (placed-behind 0 n xs p (omega arith)) are

-- so many of the items behind stand there
pub front-count : (items more : List Placed) (i count next : ℕ) → count ≡ length items → i ≤ length more → next ≡ count + i → next ≡ length (items ++ take i more)
front-count items more i count next c le n =
    let sum : length (items ++ take i more) ≡ length items + length (take i more) = length-append items (take i more) in
    let part : length (take i more) ≡ i = length-take-le i more le in
    omega arith

pub none-behind : (items : List Placed) (styles : CountedStyles) → AreOf (places_from 0 items) styles → AreOf (places_from 0 (items ++ [])) styles
none-behind items styles are = subst (λ (l : List Placed). AreOf (places_from 0 l) styles) (sym (append-none items)) are
  where
    append-none : (xs : List Placed) → xs ++ [] ≡ xs
    append-none [] = refl
    append-none (x ∷ xs) = ap (λ (l : List Placed). x ∷ l) (append-none xs)

pub front-further : (items more : List Placed) (i : ℕ) (p : Placed) (styles : CountedStyles) → i < length more → p ≡ get_or more i p → AreOf (places_from 0 (items ++ take i more ++ p ∷ [])) styles → AreOf (places_from 0 (items ++ take (i + 1) more)) styles
front-further items more i p styles lt e are =
    subst (λ (l : List Placed). AreOf (places_from 0 l) styles) (append_assoc items (take i more) (p ∷ []) ∙ ap (λ (l : List Placed). items ++ l) (take-further more i p lt e)) are

-- ---- another one at a place

greater-places : (m n : ℕ) (xs : List Placed) → m < n → all_greater m (places_from n xs) ≡ true
greater-places m n [] lt = refl
greater-places m n (x ∷ xs) lt = both (nat_lt m n) (all_greater m (places_from (suc n) xs)) (less m n lt) (greater-places m (suc n) xs (omega arith))
  where
    less : (m n : ℕ) → m < n → nat_lt m n ≡ true
    less m n lt = grind (arith, nat_tests)

none-gone : (m n : ℕ) (xs : List Placed) → m < n → without_number m (places_from n xs) ≡ places_from n xs
none-gone m n [] lt = refl
none-gone m n (x ∷ xs) lt =
    ap (λ (b : Bool). cond (not b) ((n, x.item) ∷ without_number m (places_from (suc n) xs)) (without_number m (places_from (suc n) xs))) (differ m n lt)
    ∙ ap (λ (t : Numbered Item). (n, x.item) ∷ t) (none-gone m (suc n) xs (omega arith))
  where
    differ : (m n : ℕ) → m < n → (n == m) ≡ false
    differ m n lt = grind (arith, nat_tests)

put-first : (n : ℕ) (i : Item) (es : Numbered Item) → all_greater n es ≡ true → with_number n i es ≡ (n, i) ∷ es
put-first n i [] h = refl
put-first n i (e ∷ es) h = ap (λ (b : Bool). cond b ((n, i) ∷ e ∷ es) (e ∷ with_number n i es)) h

some-same : (a b : Placed) → Some a ≡ Some b → a ≡ b
some-same a b e = cc

none-there : (p : Placed) → ◌≡◌ {A = Option Placed} None (Some p) → ⊥
none-there p e = cc

placed-at : (m n k : ℕ) (xs : List Placed) (was is : Placed) → k ≡ m + n → slice_get xs n ≡ Some was → with_number k is.item (without_number k (places_from m xs)) ≡ places_from m (set xs n is)
placed-at m n k [] was is e found = absurd (none-there was found)
placed-at m zero k (x ∷ xs) was is e found =
    let same : k ≡ m = omega arith in
    subst (λ (j : ℕ). with_number j is.item (without_number j (places_from m (x ∷ xs))) ≡ places_from m (is ∷ xs)) (sym same)
    (ap (λ (b : Bool). with_number m is.item (cond (not b) ((m, x.item) ∷ without_number m (places_from (suc m) xs)) (without_number m (places_from (suc m) xs)))) (eq-self m)
    ∙ ap (with_number m is.item) (none-gone m (suc m) xs (omega arith))
    ∙ put-first m is.item (places_from (suc m) xs) (greater-places m (suc m) xs (omega arith)))
placed-at m (suc n) k (x ∷ xs) was is e found =
    ap (λ (b : Bool). with_number k is.item (cond (not b) ((m, x.item) ∷ without_number k (places_from (suc m) xs)) (without_number k (places_from (suc m) xs)))) (differ m k (omega arith))
    ∙ with-past k is.item (m, x.item) (without_number k (places_from (suc m) xs)) (not-greater k m (omega arith))
    ∙ ap (λ (t : Numbered Item). (m, x.item) ∷ t) (placed-at (suc m) n k xs was is (omega arith) found)
  where
    differ : (m k : ℕ) → m < k → (m == k) ≡ false
    differ m k lt = grind (arith, nat_tests)

    not-greater : (k m : ℕ) → m < k → nat_lt k m ≡ false
    not-greater k m lt = grind (arith, nat_tests)

stands-at : (m n k : ℕ) (xs : List Placed) (was : Placed) → k ≡ m + n → slice_get xs n ≡ Some was → at_number k (places_from m xs) ≡ (k, was.item) ∷ []
stands-at m n k [] was e found = absurd (none-there was found)
stands-at m zero k (x ∷ xs) was e found =
    let same : m ≡ k = omega arith in
    subst (λ (j : ℕ). at_number j (places_from m (x ∷ xs)) ≡ (j, was.item) ∷ []) same
    (ap (λ (b : Bool). cond b ((m, x.item) ∷ at_number m (places_from (suc m) xs)) (at_number m (places_from (suc m) xs))) (eq-self m)
    ∙ (λ i. (m, (some-same x was found i).item) ∷ at-below m m (places_from (suc m) xs) (omega arith) (greater-places m (suc m) xs (omega arith)) i))
stands-at m (suc n) k (x ∷ xs) was e found =
    ap (λ (b : Bool). cond b ((m, x.item) ∷ at_number k (places_from (suc m) xs)) (at_number k (places_from (suc m) xs))) (differ m k (omega arith))
    ∙ stands-at (suc m) n k xs was (omega arith) found
  where
    differ : (m k : ℕ) → m < k → (m == k) ≡ false
    differ m k lt = grind (arith, nat_tests)

pub stands-there : (n : ℕ) (xs : List Placed) (was : Placed) (old : Item) → slice_get xs n ≡ Some was → was.item ≡ old → Stands n old (places_from 0 xs)
stands-there n xs was old found e = stands-at 0 n n xs was (omega arith) found ∙ ap (λ (i : Item). (n, i) ∷ []) e

pub are-changed : (n : ℕ) (xs : List Placed) (was is : Placed) (new : Item) (styles : CountedStyles) → slice_get xs n ≡ Some was → is.item ≡ new → AreOf (with_number n new (without_number n (places_from 0 xs))) styles → AreOf (places_from 0 (set xs n is)) styles
are-changed n xs was is new styles found e are =
    subst (λ (es : Numbered Item). AreOf es styles) (placed-at 0 n n xs was is (omega arith) found)
    (subst (λ (i : Item). AreOf (with_number n i (without_number n (places_from 0 xs))) styles) (sym e) are)

pub free-without : (n : ℕ) (es : Numbered Item) → is_free n (without_number n es) ≡ true
free-without n [] = refl
free-without n (e ∷ es) = by (e.0 == n) refl (free-without n es)
  where
    by : (b : Bool) → (e.0 == n) ≡ b → is_free n (without_number n es) ≡ true → is_free n (cond (not b) (e ∷ without_number n es) (without_number n es)) ≡ true
    by true k h = h
    by false k h = both (not (e.0 == n)) (is_free n (without_number n es)) (ap not k) h

-- ---- what items say under their places

pub said-places : (saying : Item → List (List ℕ × Style)) (m : ℕ) (items : List Placed) (q : List ℕ) → said_standing saying (places_from m items) q ≡ said_in saying items q
said-places saying m [] q = refl
said-places saying m (p ∷ items) q = ap (λ (t : List Style). of_symbol q (saying p.item) ++ t) (said-places saying (suc m) items q)

pub standing-is : (items : List Placed) (q : List ℕ) → style_standing (places_from 0 items) q ≡ style_of items q
standing-is items q =
    let c = said-places commodity_styles 0 items q in
    let d = said-places default_styles 0 items q in
    let f = said-places first_class 0 items q in
    let s = said-places second_class 0 items q in
    (λ i. style_by (c i) (d i) (f i) (s i))
