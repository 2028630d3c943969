-- Kept sums hold what takings sum to.
use Rattle.std.proofs.Common.{◌≡◌, ℕ, ℤ, pos, negsuc, ◌==◌, ◌+◌, ◌-◌, ◌*◌, ◌^◌, ◌<◌, ◌≤◌, min, max, ◌+ℤ◌, ◌*ℤ◌, unsigned_abs, Bool, true, false, not, cond, List, [], Option, Some, None, ◌⊎◌, inl, inr, refl, sym, ap, subst, ◌∙◌, zero-mul, arith}
use Rattle.std.specs.Ordering.{nat_cmp, is_eq, eq_by_cmp}
use Rattle.std.specs.Cmp.Lexicographic.{slice_cmp, nat_list_cmp_total}
use Rattle.std.specs.Str.{bytes_eq}
use Rattle.std.specs.FinMap.Entries.{put, find-put, find-where_key}
use Rattle.std.proofs.lemmas.Bool.{eqb-true}
use Rattle.std.proofs.lemmas.Cmp.{tied_itself, alike_right, eq_by_cmp_equiv}
use Rattle.std.proofs.lemmas.Int.{unsigned_abs-mul}
use Rattle.std.proofs.lemmas.Slice.Eq.{bytes_eq-Decides}
use Rattle.std.proofs.Math.IntN.{+ℤ_idl, +ℤ_idr}
use Rattle.std.proofs.Math.Nat.{lt_of_mul-lt-mul_right}
use Rattle.hl_num.specs.Decimal.{Decimal, units_of, mantissa_at, add_fits}
use Rattle.hl_num.proofs.DecimalLemmas.{units_of-mantissa_at, units_of-sum}
use Rattle.hl_num.proofs.DecimalLaws.{add_fits-from_sum}
use Rattle.book.specs.Entries.{AreSums, held}
use Rattle.book.specs.Mixed.{plus, sum_with, is_zero, without, settled, added, fits_with}
use Rattle.book.proofs.Added.{AreSums-added}
use Rattle.book.proofs.Entries.{tie-bytes_eq}
use Rattle.report_cells.specs.Taken.{Shared, share_in}
use Rattle.report_cells.specs.Bounds.{places_at}
use Rattle.report_cells.specs.Kept.{Cell, with_share, ShareFits, HasFewPlaces}

-- a decimal has the value, and no more places than given
pub record IsSumAt (d : Decimal) (exact : ℤ) (most : ℕ) : Type 0 where
  pub units : units_of d ≡ exact
  pub places : d.places ≤ most
  pub few : d.places ≤ 36

-- what is kept for a symbol of that sum
abbrev pub HoldsSum : Option Decimal → ℤ → ℕ → Type 0
HoldsSum None units most = units ≡ pos 0
HoldsSum (Some d) units most = IsSumAt d units most

-- kept sums hold these sums, with no more decimals than given
pub record Holds (sums : Cell) (exact : List ℕ → ℤ) (most : List ℕ → ℕ) : Type 0 where
  pub ordered : AreSums sums
  pub each : (q : List ℕ) → HoldsSum (held q sums) (exact q) (most q)

pub holds_none : (most : List ℕ → ℕ) → Holds [] (λ q. pos 0) most
holds_none most = record { ordered = record { rising = tt; nonzero = tt }; each = λ q. refl }

pub holds_as : (o : Option Decimal) (a b : ℤ) (most : ℕ) → HoldsSum o a most → b ≡ a → HoldsSum o b most
holds_as None a b most h same = same ∙ h
holds_as (Some d) a b most h same = record { units = h.units ∙ sym same; places = h.places; few = h.few }

-- the same sums, told otherwise
pub told : (sums : Cell) (a b : List ℕ → ℤ) (most : List ℕ → ℕ) → Holds sums a most → ((q : List ℕ) → b q ≡ a q) → Holds sums b most
told sums a b most h same = record { ordered = h.ordered; each = λ q. holds_as (held q sums) (a q) (b q) (most q) (h.each q) (same q) }

units_of-plus : (d v : Decimal) → d.places ≤ 36 → v.places ≤ 36 → units_of (plus d v) ≡ units_of d +ℤ units_of v
units_of-plus d v f g = units_of-sum d v (max d.places v.places) (omega arith) (omega arith) (omega arith)

sum_with-is : (o : Option Decimal) (v : Decimal) (s : ℤ) (n : ℕ) → HoldsSum o s n → v.places ≤ 36 → v.places ≤ n → IsSumAt (sum_with o v) (s +ℤ units_of v) n
sum_with-is None v s n h few within = record { units = sym (ap (λ (z : ℤ). z +ℤ units_of v) h ∙ +ℤ_idl (units_of v)); places = within; few = few }
sum_with-is (Some d) v s n h few within = record {
  units = units_of-plus d v h.few few ∙ ap (λ (z : ℤ). z +ℤ units_of v) h.units;
  places = omega (arith, h.places);
  few = omega (arith, h.few);
}

no_units : (m : ℤ) (n : ℕ) → (unsigned_abs m == 0) ≡ true → m *ℤ pos n ≡ pos 0
no_units (pos a) n h = ap (λ (k : ℕ). pos (k * n)) (eqb-true a 0 h) ∙ ap pos (zero-mul n)
no_units (negsuc a) n h = absurd (omega (arith, eqb-true (unsigned_abs (negsuc a)) 0 h))

ties_itself : (k : List ℕ) → eq_by_cmp (slice_cmp nat_cmp) k k ≡ true
ties_itself k = ap is_eq (tied_itself nat_list_cmp_total k)

settled-here : (b : Bool) (k : List ℕ) (sum : Decimal) (m : Cell) (s : ℤ) (n : ℕ) → is_zero sum ≡ b → IsSumAt sum s n → HoldsSum (held k (settled b k sum m)) s n
settled-here true k sum m s n none h =
    let gone : held k (without k m) ≡ None =
    find-where_key (slice_cmp nat_cmp) (λ x. not (eq_by_cmp (slice_cmp nat_cmp) k x)) k (λ x t. ap (λ r. not (is_eq r)) (sym (alike_right nat_list_cmp_total k x k t))) m
    ∙ ap (λ b. cond (not b) (held k m) None) (ties_itself k) in
    subst (λ (o : Option Decimal). HoldsSum o s n) (sym gone) (sym h.units ∙ no_units sum.mantissa (10 ^ (36 - sum.places)) none)
settled-here false k sum m s n some h =
    let there : held k (put (slice_cmp nat_cmp) k sum m) ≡ Some sum =
    find-put (slice_cmp nat_cmp) nat_list_cmp_total k k sum m ∙ ap (λ b. cond b (Some sum) (held k m)) (ties_itself k) in
    subst (λ (o : Option Decimal). HoldsSum o s n) (sym there) h

settled-other : (b : Bool) (k q : List ℕ) (sum : Decimal) (m : Cell) → eq_by_cmp (slice_cmp nat_cmp) q k ≡ false → held q (settled b k sum m) ≡ held q m
settled-other true k q sum m apart =
    find-where_key (slice_cmp nat_cmp) (λ x. not (eq_by_cmp (slice_cmp nat_cmp) k x)) q (λ x t. ap (λ r. not (is_eq r)) (sym (alike_right nat_list_cmp_total q x k t))) m
    ∙ ap (λ b. cond (not b) (held q m) None) ((eq_by_cmp_equiv nat_list_cmp_total).symm k q ∙ apart)
settled-other false k q sum m apart = find-put (slice_cmp nat_cmp) nat_list_cmp_total q k sum m ∙ ap (λ b. cond b (Some sum) (held q m)) apart

-- two texts are the same or differ
pub alike : (a b : List ℕ) → (a ≡ b) ⊎ (bytes_eq a b ≡ false)
alike a b = elim (bytes_eq a b) as (λ t. bytes_eq a b ≡ t → (a ≡ b) ⊎ (t ≡ false)) [ true ↦ λ e. inl ((bytes_eq-Decides a b).0 e) | false ↦ λ e. inr refl ] refl

pub bytes_eq-itself : (a : List ℕ) → bytes_eq a a ≡ true
bytes_eq-itself a = (bytes_eq-Decides a a).1 refl

module _ (m : Cell) (exact : List ℕ → ℤ) (most : List ℕ → ℕ) (h : Holds m exact most) where
  step : (amount : Option Shared) → HasFewPlaces amount → (q : List ℕ) → places_at q amount ≤ most q → HoldsSum (held q (with_share amount m)) (exact q +ℤ share_in q amount) (most q)
  step None few q within = holds_as (held q m) _ _ _ (h.each q) (+ℤ_idr (exact q))
  step (Some a) few q within =
      let sum = sum_with (held a.0 m) a.1 in
      elim (alike a.0 q) [
        | inl same ↦
            let here : HoldsSum (held a.0 (added a.0 a.1 m)) (exact a.0 +ℤ share_in a.0 (Some a)) (most a.0) =
            subst (λ (b : Bool). HoldsSum (held a.0 (added a.0 a.1 m)) (exact a.0 +ℤ cond b (units_of a.1) (pos 0)) (most a.0)) (sym (bytes_eq-itself a.0))
            (settled-here (is_zero sum) a.0 sum m _ _ refl (sum_with-is (held a.0 m) a.1 _ _ (h.each a.0) few
            (subst (λ (b : Bool). cond b a.1.places 0 ≤ most a.0) (bytes_eq-itself a.0) (subst (λ (x : List ℕ). places_at x (Some a) ≤ most x) (sym same) within)))) in
            subst (λ (x : List ℕ). HoldsSum (held x (added a.0 a.1 m)) (exact x +ℤ share_in x (Some a)) (most x)) same here
        | inr differ ↦ subst (λ (b : Bool). HoldsSum (held q (added a.0 a.1 m)) (exact q +ℤ cond b (units_of a.1) (pos 0)) (most q)) (sym differ)
            (subst (λ (o : Option Decimal). HoldsSum o (exact q +ℤ pos 0) (most q)) (sym (settled-other (is_zero sum) a.0 q sum m (tie-bytes_eq q a.0 ∙ differ)))
            (holds_as (held q m) _ _ _ (h.each q) (+ℤ_idr (exact q))))
      ]

  sums_stay : (amount : Option Shared) → AreSums (with_share amount m)
  sums_stay None = h.ordered
  sums_stay (Some a) = AreSums-added a.0 a.1 m h.ordered

  -- one more amount
  pub holds_more : (amount : Option Shared) → HasFewPlaces amount → ((q : List ℕ) → places_at q amount ≤ most q) → Holds (with_share amount m) (λ q. exact q +ℤ share_in q amount) most
  holds_more amount few within = record { ordered = sums_stay amount; each = λ q. step amount few q (within q) }

-- ---- an amount fits

two_fit : (d v : Decimal) (n : ℕ) → d.places ≤ n → d.places ≤ 36 → v.places ≤ n → v.places ≤ 36 → unsigned_abs (units_of d) + unsigned_abs (units_of v) < 2 ^ 127 * 10 ^ (36 - n) → add_fits d v ≡ true
two_fit d v n dn d36 vn v36 small =
    let q = min n 36 in
    let ten : ℕ = 10 ^ (36 - min n 36) in
    let same : 36 - n ≡ 36 - min n 36 = omega arith in
    let a : unsigned_abs (mantissa_at d q) * ten ≡ unsigned_abs (units_of d) = sym (unsigned_abs-mul (mantissa_at d q) (pos ten)) ∙ ap unsigned_abs (units_of-mantissa_at d q (omega arith) (omega arith)) in
    let b : unsigned_abs (mantissa_at v q) * ten ≡ unsigned_abs (units_of v) = sym (unsigned_abs-mul (mantissa_at v q) (pos ten)) ∙ ap unsigned_abs (units_of-mantissa_at v q (omega arith) (omega arith)) in
    let bound : unsigned_abs (units_of d) + unsigned_abs (units_of v) < 2 ^ 127 * ten = subst (λ (k : ℕ). unsigned_abs (units_of d) + unsigned_abs (units_of v) < 2 ^ 127 * 10 ^ k) same small in
    let scaled : (unsigned_abs (mantissa_at d q) + unsigned_abs (mantissa_at v q)) * ten < 2 ^ 127 * ten = omega (arith, a, b, bound) in
    add_fits-from_sum d v q (omega arith) (omega arith) (lt_of_mul-lt-mul_right ten scaled)

pub fits_found : (o : Option Decimal) (v : Decimal) (s : ℤ) (n : ℕ) → HoldsSum o s n → v.places ≤ n → v.places ≤ 36 → unsigned_abs s + unsigned_abs (units_of v) < 2 ^ 127 * 10 ^ (36 - n) → fits_with o v ≡ true
fits_found None v s n h vn v36 small = refl
fits_found (Some d) v s n h vn v36 small =
    two_fit d v n h.places h.few vn v36 (subst (λ (z : ℤ). unsigned_abs z + unsigned_abs (units_of v) < 2 ^ 127 * 10 ^ (36 - n)) (sym h.units) small)

-- an amount can be added where the absolute sum and it stay below the bound
pub share_fits : (m : Cell) (exact : List ℕ → ℤ) (most : List ℕ → ℕ) (amount : Option Shared) → Holds m exact most → HasFewPlaces amount
    → ((q : List ℕ) → unsigned_abs (exact q) + unsigned_abs (share_in q amount) < 2 ^ 127 * 10 ^ (36 - most q))
    → ((q : List ℕ) → places_at q amount ≤ most q) → ShareFits amount m
share_fits m exact most None h few small within = tt
share_fits m exact most (Some a) h few small within =
    let places : a.1.places ≤ most a.0 = subst (λ (b : Bool). cond b a.1.places 0 ≤ most a.0) (bytes_eq-itself a.0) (within a.0) in
    let with_it : unsigned_abs (exact a.0) + unsigned_abs (units_of a.1) < 2 ^ 127 * 10 ^ (36 - most a.0) =
    subst (λ (b : Bool). unsigned_abs (exact a.0) + unsigned_abs (cond b (units_of a.1) (pos 0)) < 2 ^ 127 * 10 ^ (36 - most a.0)) (bytes_eq-itself a.0) (small a.0) in
    fits_found (held a.0 m) a.1 (exact a.0) (most a.0) (h.each a.0) places few with_it
