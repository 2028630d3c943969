-- What adding to sums of several symbols gives.
use Rattle.std.proofs.Common.{◌≡◌, ◌≢◌, ℕ, zero, suc, ℤ, pos, negsuc, ◌==◌, ◌-◌, ◌*◌, ◌/◌, ◌^◌, ◌<◌, ◌≤◌, ◌+ℤ◌, ◌*ℤ◌, max, unsigned_abs, Bool, true, false, not, cond, List, [], ◌∷◌, get_or, set, Option, Some, None, Result, Ok, Err, OnOk, OnErr, refl, sym, ap, subst, ◌∙◌, arith}
use Rattle.std.specs.declared.cmp.Ordering.TheVariants.{Less, Equal, Greater}
use Rattle.std.specs.Ordering.{nat_cmp, eq_by_cmp}
use Rattle.std.specs.Cmp.Lexicographic.{slice_cmp, nat_list_cmp_total}
use Rattle.std.specs.List.{insert, remove, AllByRecursion}
use Rattle.std.specs.FinMap.{IsAntisymmetric, slice_cmp-IsAntisymmetric, nat_cmp-IsAntisymmetric}
use Rattle.std.specs.FinMap.Entries.{by_order, put, is_sorted-put, is_sorted-where_key}
use Rattle.std.proofs.lemmas.Bool.{false≢true, ne_eqb}
use Rattle.hl_num.specs.Decimal.{Decimal, units_of}
use Rattle.hl_num.proofs.RoundingLemmas.{pow_ten_positive}
use Rattle.hl_num.proofs.DecimalLemmas.{cancel, units_of-sum}
use Rattle.book.specs.Entries.{IsRising, AreSums, held}
use Rattle.book.specs.Mixed.{plus, sum_with, is_zero, without, settled, added}
use Rattle.book.specs.Places.{IsPlace, IsGap}
use Rattle.book.proofs.Places.{find-at, put-at, where_key-at, find-gap, put-gap}

-- the value and the number of places determine a decimal
pub plus_from : (a b sum : Decimal) → a.places ≤ 36 → b.places ≤ 36 → units_of sum ≡ units_of a +ℤ units_of b → sum.places ≡ max a.places b.places → sum ≡ plus a b
plus_from a b sum of_a of_b value places =
    let p = max a.places b.places in
    let exact : sum.mantissa *ℤ pos (10 ^ (36 - max a.places b.places)) ≡ (plus a b).mantissa *ℤ pos (10 ^ (36 - max a.places b.places)) =
    ap (λ q. sum.mantissa *ℤ pos (10 ^ (36 - q))) (sym places) ∙ value ∙ sym (units_of-sum a b p (omega arith) (omega arith) (omega arith)) in
    let same = cancel sum.mantissa (plus a b).mantissa (10 ^ (36 - p)) (pow_ten_positive (36 - p)) exact in
    λ i. record { mantissa = same i; places = places i }

antisymmetric : IsAntisymmetric (slice_cmp nat_cmp)
antisymmetric = slice_cmp-IsAntisymmetric nat_cmp-IsAntisymmetric

module _ (es : List (List ℕ × Decimal)) (k : List ℕ) (i : ℕ) (value : Decimal) where
  module _ (rising : IsRising es) (at : IsPlace es k i) (e : List ℕ × Decimal) (is : e ≡ get_or es i e) where
    pub held-at : held k es ≡ Some e.1
    held-at = find-at nat_list_cmp_total antisymmetric k es i e rising at ∙ ap (λ (x : List ℕ × Decimal). Some x.1) (sym is)

    added-at : added k value es ≡ settled (is_zero (plus e.1 value)) k (plus e.1 value) es
    added-at = ap (λ (h : Option Decimal). settled (is_zero (sum_with h value)) k (sum_with h value) es) held-at

    pub added-gone : is_zero (plus e.1 value) ≡ true → added k value es ≡ remove es i
    added-gone none = added-at ∙ ap (λ b. settled b k (plus e.1 value) es) none ∙ where_key-at nat_list_cmp_total antisymmetric k es i rising at

    pub added-changed : is_zero (plus e.1 value) ≡ false → added k value es ≡ set es i (e.0, plus e.1 value)
    added-changed some =
        added-at ∙ ap (λ b. settled b k (plus e.1 value) es) some ∙ put-at nat_list_cmp_total antisymmetric k es i (plus e.1 value) rising at
        ∙ ap (λ x. set es i (x, plus e.1 value)) (sym (at.is e) ∙ ap (λ (x : List ℕ × Decimal). x.0) (sym is))

  module _ (gap : IsGap (slice_cmp nat_cmp) es k i) where
    pub held-gap : held k es ≡ None
    held-gap = find-gap nat_list_cmp_total antisymmetric k es i gap

    added-gap : added k value es ≡ settled (is_zero value) k value es
    added-gap = ap (λ (h : Option Decimal). settled (is_zero (sum_with h value)) k (sum_with h value) es) held-gap

    pub added-new : is_zero value ≡ false → added k value es ≡ insert es i (k, value)
    added-new some = added-gap ∙ ap (λ b. settled b k value es) some ∙ put-gap nat_list_cmp_total antisymmetric k es i value gap

-- a key that isn't there is left out of nothing
pub without-none : (es : List (List ℕ × Decimal)) (k : List ℕ) → held k es ≡ None → without k es ≡ es
without-none [] k none = refl
without-none (e ∷ es) k none =
    elim (eq_by_cmp (slice_cmp nat_cmp) k e.0) as (λ b. cond b (Some e.1) (held k es) ≡ None → cond (not b) (e ∷ without k es) (without k es) ≡ e ∷ es) [
      | true ↦ λ h. absurd (false≢true (ap is_none h))
      | false ↦ λ h. ap (λ t. e ∷ t) (without-none es k h)
    ] none
  where
    is_none : Option Decimal → Bool
    is_none None = true
    is_none (Some x) = false

pub added-nothing : (es : List (List ℕ × Decimal)) (k : List ℕ) (i : ℕ) (value : Decimal) → IsGap (slice_cmp nat_cmp) es k i → is_zero value ≡ true → added k value es ≡ es
added-nothing es k i value gap none = ap (λ (h : Option Decimal). settled (is_zero (sum_with h value)) k (sum_with h value) es) (held-gap es k i value gap) ∙ ap (λ b. settled b k value es) none ∙ without-none es k (held-gap es k i value gap)

zero_test : (m : ℤ) → m ≢ pos 0 → (unsigned_abs m == 0) ≡ false
zero_test (pos zero) h = absurd (h refl)
zero_test (pos (suc n)) h = ne_eqb (suc n) 0 (omega arith)
zero_test (negsuc n) h = ne_eqb (unsigned_abs (negsuc n)) 0 (omega arith)

pub is_zero-true : (d : Decimal) → d.mantissa ≡ pos 0 → is_zero d ≡ true
is_zero-true d e = ap (λ (m : ℤ). unsigned_abs m == 0) e

pub is_zero-false : (d : Decimal) → d.mantissa ≢ pos 0 → is_zero d ≡ false
is_zero-false d h = zero_test d.mantissa h

-- ---- the order and the sums that aren't zero stay

abbrev IsSum : List ℕ × Decimal → Type 0
IsSum e = e.1.mantissa ≢ pos 0

all-without : (k : List ℕ) (es : List (List ℕ × Decimal)) → AllByRecursion IsSum es → AllByRecursion IsSum (without k es)
all-without k [] h = tt
all-without k (e ∷ es) h =
    elim (not (eq_by_cmp (slice_cmp nat_cmp) k e.0)) as (λ b. AllByRecursion IsSum (cond b (e ∷ without k es) (without k es))) [
      | true ↦ (h.0, all-without k es h.1)
      | false ↦ all-without k es h.1
    ]

all-put : (k : List ℕ) (v : Decimal) (es : List (List ℕ × Decimal)) → v.mantissa ≢ pos 0 → AllByRecursion IsSum es → AllByRecursion IsSum (put (slice_cmp nat_cmp) k v es)
all-put k v [] here h = (here, tt)
all-put k v (e ∷ es) here h =
    elim (slice_cmp nat_cmp k e.0) as (λ r. AllByRecursion IsSum (by_order r ((k, v) ∷ e ∷ es) ((e.0, v) ∷ es) (e ∷ put (slice_cmp nat_cmp) k v es))) [
      | Less ↦ (here, h)
      | Equal ↦ (here, h.1)
      | Greater ↦ (h.0, all-put k v es here h.1)
    ]

not_zero : (sum : Decimal) → is_zero sum ≡ false → sum.mantissa ≢ pos 0
not_zero sum some none = false≢true (sym some ∙ ap (λ (z : ℤ). is_zero (record { mantissa = z; places = 0 })) none)

AreSums-settled : (b : Bool) (k : List ℕ) (sum : Decimal) (es : List (List ℕ × Decimal)) → is_zero sum ≡ b → AreSums es → AreSums (settled b k sum es)
AreSums-settled true k sum es is h = record { rising = is_sorted-where_key (slice_cmp nat_cmp) _ es h.rising; nonzero = all-without k es h.nonzero }
AreSums-settled false k sum es is h = record { rising = is_sorted-put (slice_cmp nat_cmp) nat_list_cmp_total k sum es h.rising; nonzero = all-put k sum es (not_zero sum is) h.nonzero }

pub AreSums-added : (k : List ℕ) (value : Decimal) (es : List (List ℕ × Decimal)) → AreSums es → AreSums (added k value es)
AreSums-added k value es h = AreSums-settled _ k (sum_with (held k es) value) es refl h

-- whatever an addition answered
pub AreSums-either : {E : Type 0} (r : Result (Unit {0}) E) (k : List ℕ) (value : Decimal) (old new : List (List ℕ × Decimal)) → OnOk r (new ≡ added k value old) → OnErr r (new ≡ old) → AreSums old → AreSums new
AreSums-either (Ok u) k value old new ok err h = subst AreSums (sym ok) (AreSums-added k value old h)
AreSums-either (Err e) k value old new ok err h = subst AreSums (sym err) h
