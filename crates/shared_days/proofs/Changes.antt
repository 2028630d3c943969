-- The numbers under each day, once one day has other places.
use Rattle.std.proofs.Common.{◌≡◌, ℕ, ◌+◌, ◌<◌, ◌==◌, Bool, true, false, ◌||◌, cond, List, [], ◌∷◌, ◌++◌, length, get_or, take, Some, refl, sym, ap, ◌∙◌, arith}
use Rattle.std.specs.Prelude.{nat_lt}
use Rattle.std.specs.List.{list_any}
use Rattle.std.specs.declared.cmp.Ordering.{Ordering}
use Rattle.std.specs.declared.cmp.Ordering.TheVariants.{Less, Equal, Greater}
use Rattle.std.specs.Ordering.{nat_cmp, is_eq, match_ordering}
use Rattle.std.specs.BTreeSet.{replace_key}
use Rattle.std.proofs.lemmas.Bool.{false≢true}
use Rattle.std.proofs.lemmas.Bool.Decides.{nat_tests}
use Rattle.std.proofs.lemmas.Cmp.{alike_right}
use Rattle.std.proofs.lemmas.List.{take_more}
use Rattle.hl_time.specs.declared.day.Day.{Day}
use Rattle.placed_sums.specs.Days.{numbers_in}
use Rattle.shared_days.specs.declared.day_places.DayPlaces.{DayPlaces}
use Rattle.shared_days.specs.Days.{numbers_or}
use Rattle.shared_days.specs.Places.{day_cmp, found_on}
use Rattle.shared_days.specs.Totals.{day_total}
use Rattle.shared_days.proofs.Fronts.{eq-of}

is-equal : (r : Ordering) → is_eq r ≡ true → r ≡ Equal
is-equal Less q = absurd (false≢true q)
is-equal Equal q = refl
is-equal Greater q = absurd (false≢true q)

lt-differs : (m n : ℕ) → nat_lt m n ≡ true → (m == n) ≡ false
lt-differs m n h = grind (arith, nat_tests)

nat-eq-is : (m n : ℕ) → is_eq (nat_cmp m n) ≡ (m == n)
nat-eq-is m n =
    elim (nat_lt m n) as (λ b. nat_lt m n ≡ b → is_eq (cond b Less (cond (m == n) Equal Greater)) ≡ (m == n)) [
      | true ↦ λ e. sym (lt-differs m n e)
      | false ↦ λ e. turn (m == n)
    ] refl
  where
    turn : (c : Bool) → is_eq (cond c Equal Greater) ≡ c
    turn true = refl
    turn false = refl

eq-turned : (m n : ℕ) → (m == n) ≡ (n == m)
eq-turned m n = by (m == n) (n == m) refl refl
  where
    yes-turned : (m n : ℕ) → (m == n) ≡ true → (n == m) ≡ true
    yes-turned m n h = grind (arith, nat_tests)

    by : (a b : Bool) → (m == n) ≡ a → (n == m) ≡ b → a ≡ b
    by true true e f = refl
    by true false e f = absurd (false≢true (sym f ∙ yes-turned m n e))
    by false true e f = absurd (false≢true (sym e ∙ yes-turned n m f))
    by false false e f = refl

pub same-day : (a b : Day) → (a.0 == b.0) ≡ true → a ≡ b
same-day a b e = λ i. record { 0 = eq-of a.0 b.0 e i }

-- ---- what is found

abbrev probe : ℕ → DayPlaces → DayPlaces
probe d k = record k { day = record { 0 = d } }

same-if : {A : Type 0} (b c : Bool) (x y z : A) → c ≡ b → cond b x y ≡ cond b x (cond c z y)
same-if true c x y z e = refl
same-if false c x y z e = ap (λ (d : Bool). cond d z y) (sym e)

cross : {A : Type 0} (b c : Bool) (x y z : A) → (c ≡ true → b ≡ false) → cond b x (cond c y z) ≡ cond c y (cond b x z)
cross b true x y z f = ap (λ (d : Bool). cond d x y) (f refl)
cross b false x y z f = refl

found-put : (d : ℕ) (k : DayPlaces) (ws : List DayPlaces) → found_on d (replace_key day_cmp ws k) ≡ cond (is_eq (nat_cmp d k.day.0)) (Some k) (found_on d ws)
found-put d k [] = refl
found-put d k (x ∷ ws) =
    let rest = found-put d k ws in
    elim (day_cmp k x) as (λ r. day_cmp k x ≡ r → found_on d (match_ordering r (k ∷ x ∷ ws) (k ∷ ws) (x ∷ replace_key day_cmp ws k)) ≡ cond (is_eq (nat_cmp d k.day.0)) (Some k) (cond (is_eq (nat_cmp d x.day.0)) (Some x) (found_on d ws))) [
      | Less ↦ λ e. refl
      | Equal ↦ λ e. same-if (is_eq (nat_cmp d k.day.0)) (is_eq (nat_cmp d x.day.0)) (Some k) (found_on d ws) (Some x) (sym (ap is_eq (alike_right day_total k x (probe d k) e)))
      | Greater ↦ λ e.
          ap (cond (is_eq (nat_cmp d x.day.0)) (Some x)) rest
          ∙ cross (is_eq (nat_cmp d x.day.0)) (is_eq (nat_cmp d k.day.0)) (Some x) (Some k) (found_on d ws) (apart e)
    ] refl
  where
    apart : day_cmp k x ≡ Greater → is_eq (nat_cmp d k.day.0) ≡ true → is_eq (nat_cmp d x.day.0) ≡ false
    apart e h = ap is_eq (day_total.congr (probe d k) k x (is-equal (nat_cmp d k.day.0) h) ∙ e)

pub put-is : (others : List ℕ) (ws new : List DayPlaces) (k : DayPlaces) (d : ℕ) → new ≡ replace_key day_cmp ws k → numbers_or others (found_on d new) ≡ cond (k.day.0 == d) (numbers_in k.places.items) (numbers_or others (found_on d ws))
put-is others ws new k d made =
    ap (λ (l : List DayPlaces). numbers_or others (found_on d l)) made
    ∙ ap (numbers_or others) (found-put d k ws)
    ∙ ap (λ (b : Bool). numbers_or others (cond b (Some k) (found_on d ws))) (nat-eq-is d k.day.0 ∙ eq-turned d k.day.0)
    ∙ (elim (k.day.0 == d) as (λ b. numbers_or others (cond b (Some k) (found_on d ws)) ≡ cond b (numbers_in k.places.items) (numbers_or others (found_on d ws))) [ true ↦ refl | false ↦ refl ])

-- where a test holds the values may be shown under it
pub cond-if : {A : Type 0} (b : Bool) (x y z : A) → (b ≡ true → x ≡ y) → cond b x z ≡ cond b y z
cond-if true x y z f = f refl
cond-if false x y z f = refl

-- ---- postings, one after another

any-append : {X : Type 0} (t : X → Bool) (xs : List X) (x : X) → list_any t (xs ++ x ∷ []) ≡ (list_any t xs || t x)
any-append t [] x = by (t x)
  where
    by : (b : Bool) → (b || false) ≡ b
    by true = refl
    by false = refl
any-append t (y ∷ ys) x = by (t y) (any-append t ys x)
  where
    by : (b : Bool) → list_any t (ys ++ x ∷ []) ≡ (list_any t ys || t x) → (b || list_any t (ys ++ x ∷ [])) ≡ ((b || list_any t ys) || t x)
    by true e = refl
    by false e = e

pub any-more : {X : Type 0} (t : X → Bool) (xs : List X) (i : ℕ) (x : X) → i < length xs → x ≡ get_or xs i x → list_any t (take (i + 1) xs) ≡ (list_any t (take i xs) || t x)
any-more {X = X} t xs i x lt e =
    ap (list_any t) (take_more xs i x lt ∙ ap (λ (y : X). take i xs ++ y ∷ []) (sym e))
    ∙ any-append t (take i xs) x

-- what is done twice is done once
pub done-more : (f : List ℕ → List ℕ) → ((ks : List ℕ) → f (f ks) ≡ f ks) → (b c both : Bool) (old kept new : List ℕ) → both ≡ (b || c) → kept ≡ cond b (f old) old → new ≡ cond c (f kept) kept → new ≡ cond both (f old) old
done-more f again b c both old kept new e k n =
    n ∙ ap (λ (ks : List ℕ). cond c (f ks) ks) k ∙ by b c ∙ sym (ap (λ (t : Bool). cond t (f old) old) e)
  where
    by : (b c : Bool) → cond c (f (cond b (f old) old)) (cond b (f old) old) ≡ cond (b || c) (f old) old
    by true true = again old
    by true false = refl
    by false true = refl
    by false false = refl
