-- Kept sums hold the sums of the entries that were added, and those that are left can be added.
use Rattle.std.proofs.Common.{◌≡◌, ℕ, ℤ, pos, negsuc, ◌==◌, ◌+◌, ◌-◌, ◌*◌, ◌^◌, ◌<◌, ◌≤◌, min, max, ◌+ℤ◌, ◌*ℤ◌, unsigned_abs, Bool, true, false, not, cond, List, [], ◌∷◌, ◌++◌, Option, Some, None, ◌⊎◌, inl, inr, refl, sym, ap, subst, ◌∙◌, zero-mul, append_assoc, append-nil, arith}
use Rattle.std.specs.List.{AllByRecursion}
use Rattle.std.specs.Ordering.{nat_cmp, is_eq, eq_by_cmp}
use Rattle.std.specs.Cmp.Lexicographic.{slice_cmp, nat_list_cmp_total}
use Rattle.std.specs.Str.{bytes_eq}
use Rattle.std.specs.FinMap.Entries.{put, find-put, find-where_key}
use Rattle.std.proofs.lemmas.Bool.{eqb-true}
use Rattle.std.proofs.lemmas.Cmp.{tied_itself, alike_right, eq_by_cmp_equiv}
use Rattle.std.proofs.lemmas.Int.{unsigned_abs-mul}
use Rattle.std.proofs.lemmas.Slice.Eq.{bytes_eq-Decides}
use Rattle.std.proofs.Math.IntN.{+ℤ_idl, +ℤ_idr}
use Rattle.std.proofs.Math.Nat.{lt_of_mul-lt-mul_right}
use Rattle.hl_num.specs.Decimal.{Decimal, units_of, mantissa_at, add_fits}
use Rattle.hl_num.proofs.DecimalLemmas.{units_of-mantissa_at, units_of-sum}
use Rattle.hl_num.proofs.DecimalLaws.{add_fits-from_sum}
use Rattle.book.specs.Entries.{AreSums, held}
use Rattle.book.specs.Mixed.{plus, sum_with, is_zero, without, settled, added, fits_with}
use Rattle.book.proofs.Added.{AreSums-added}
use Rattle.book.proofs.Entries.{tie-bytes_eq}
use Rattle.report_cells.specs.Report.{Sums, seen}
use Rattle.hl_num.specs.Shortest.{shortest}
use Rattle.balance_rows.specs.Fitting.{turnover}
use Rattle.balance_rows.specs.Kept.{KeptSums, EachFits, added_all}
use Rattle.balance_rows.specs.Sums.{share, sum_of}
use Rattle.balance_rows.proofs.Entries.{sum_of-append, sum-le-turnover, turnover-append}
use Rattle.balance_rows.proofs.Shortest.{shortest-few, shortest-units}

-- a decimal has the value, and no more places than given
pub record IsSumAt (d : Decimal) (exact : ℤ) (most : ℕ) : Type 0 where
  pub units : units_of d ≡ exact
  pub places : d.places ≤ most
  pub few : d.places ≤ 36

-- what is kept for a symbol of that sum
abbrev pub HoldsSum : Option Decimal → ℤ → ℕ → Type 0
HoldsSum None units most = units ≡ pos 0
HoldsSum (Some d) units most = IsSumAt d units most

-- kept sums hold the sums of some entries, with so many places in each symbol
pub record Holds (most : List ℕ → ℕ) (sums : KeptSums) (done : Sums) : Type 0 where
  pub ordered : AreSums sums
  pub each : (q : List ℕ) → HoldsSum (held q sums) (sum_of q done) (most q)

pub holds_none : (most : List ℕ → ℕ) → Holds most [] []
holds_none most = record { ordered = record { rising = tt; nonzero = tt }; each = λ q. refl }

holds_as : (o : Option Decimal) (a b : ℤ) (m : ℕ) → HoldsSum o a m → b ≡ a → HoldsSum o b m
holds_as None a b m h same = same ∙ h
holds_as (Some d) a b m h same = record { units = h.units ∙ sym same; places = h.places; few = h.few }

units_of-plus : (d v : Decimal) → d.places ≤ 36 → v.places ≤ 36 → units_of (plus d v) ≡ units_of d +ℤ units_of v
units_of-plus d v f g = units_of-sum d v (max d.places v.places) (omega arith) (omega arith) (omega arith)

sum_with-is : (o : Option Decimal) (v : Decimal) (s : ℤ) (n : ℕ) → HoldsSum o s n → v.places ≤ n → v.places ≤ 36 → IsSumAt (sum_with o v) (s +ℤ units_of v) n
sum_with-is None v s n h less few = record { units = sym (ap (λ (z : ℤ). z +ℤ units_of v) h ∙ +ℤ_idl (units_of v)); places = less; few = few }
sum_with-is (Some d) v s n h less few = record {
  units = units_of-plus d v h.few few ∙ ap (λ (z : ℤ). z +ℤ units_of v) h.units;
  places = omega (arith, h.places, less);
  few = omega (arith, h.few, few);
}

no_units : (m : ℤ) (n : ℕ) → (unsigned_abs m == 0) ≡ true → m *ℤ pos n ≡ pos 0
no_units (pos a) n h = ap (λ (k : ℕ). pos (k * n)) (eqb-true a 0 h) ∙ ap pos (zero-mul n)
no_units (negsuc a) n h = absurd (omega (arith, eqb-true (unsigned_abs (negsuc a)) 0 h))

ties_itself : (k : List ℕ) → eq_by_cmp (slice_cmp nat_cmp) k k ≡ true
ties_itself k = ap is_eq (tied_itself nat_list_cmp_total k)

settled-here : (b : Bool) (k : List ℕ) (sum : Decimal) (m : KeptSums) (s : ℤ) (n : ℕ) → is_zero sum ≡ b → IsSumAt sum s n → HoldsSum (held k (settled b k sum m)) s n
settled-here true k sum m s n none h =
    let gone : held k (without k m) ≡ None =
    find-where_key (slice_cmp nat_cmp) (λ x. not (eq_by_cmp (slice_cmp nat_cmp) k x)) k (λ x t. ap (λ r. not (is_eq r)) (sym (alike_right nat_list_cmp_total k x k t))) m
    ∙ ap (λ b. cond (not b) (held k m) None) (ties_itself k) in
    subst (λ (o : Option Decimal). HoldsSum o s n) (sym gone) (sym h.units ∙ no_units sum.mantissa (10 ^ (36 - sum.places)) none)
settled-here false k sum m s n some h =
    let there : held k (put (slice_cmp nat_cmp) k sum m) ≡ Some sum =
    find-put (slice_cmp nat_cmp) nat_list_cmp_total k k sum m ∙ ap (λ b. cond b (Some sum) (held k m)) (ties_itself k) in
    subst (λ (o : Option Decimal). HoldsSum o s n) (sym there) h

settled-other : (b : Bool) (k q : List ℕ) (sum : Decimal) (m : KeptSums) → eq_by_cmp (slice_cmp nat_cmp) q k ≡ false → held q (settled b k sum m) ≡ held q m
settled-other true k q sum m apart =
    find-where_key (slice_cmp nat_cmp) (λ x. not (eq_by_cmp (slice_cmp nat_cmp) k x)) q (λ x t. ap (λ r. not (is_eq r)) (sym (alike_right nat_list_cmp_total q x k t))) m
    ∙ ap (λ b. cond (not b) (held q m) None) ((eq_by_cmp_equiv nat_list_cmp_total).symm k q ∙ apart)
settled-other false k q sum m apart = find-put (slice_cmp nat_cmp) nat_list_cmp_total q k sum m ∙ ap (λ b. cond b (Some sum) (held q m)) apart

-- two texts are the same or differ
pub alike : (a b : List ℕ) → (a ≡ b) ⊎ (bytes_eq a b ≡ false)
alike a b = elim (bytes_eq a b) as (λ t. bytes_eq a b ≡ t → (a ≡ b) ⊎ (t ≡ false)) [ true ↦ λ e. inl ((bytes_eq-Decides a b).0 e) | false ↦ λ e. inr refl ] refl

pub bytes_eq-itself : (a : List ℕ) → bytes_eq a a ≡ true
bytes_eq-itself a = (bytes_eq-Decides a a).1 refl

pub share-itself : (k : List ℕ) (u : ℤ) → share k (k, u) ≡ u
share-itself k u = ap (λ (b : Bool). cond b u (pos 0)) (bytes_eq-itself k)

-- the sum with one more entry
one_more : (q k : List ℕ) (u : ℤ) (done : Sums) → sum_of q (done ++ (k, u) ∷ []) ≡ sum_of q done +ℤ share q (k, u)
one_more q k u done = sum_of-append q done ((k, u) ∷ []) ∙ ap (λ (z : ℤ). sum_of q done +ℤ z) (+ℤ_idr (share q (k, u)))

module _ (most : List ℕ → ℕ) (m : KeptSums) (done : Sums) (k : List ℕ) (u : ℤ) (h : Holds most m done) where
  here : (shortest u).places ≤ most k → HoldsSum (held k (added k (shortest u) m)) (sum_of k done +ℤ share k (k, u)) (most k)
  here less =
      let sum = sum_with (held k m) (shortest u) in
      let is : IsSumAt sum (sum_of k done +ℤ units_of (shortest u)) (most k) = sum_with-is (held k m) (shortest u) (sum_of k done) (most k) (h.each k) less (shortest-few u) in
      holds_as (held k (added k (shortest u) m)) _ _ (most k) (settled-here (is_zero sum) k sum m _ (most k) refl is)
      (ap (λ (z : ℤ). sum_of k done +ℤ z) (share-itself k u ∙ sym (shortest-units u)))

  there : (q : List ℕ) → bytes_eq k q ≡ false → HoldsSum (held q (added k (shortest u) m)) (sum_of q done +ℤ share q (k, u)) (most q)
  there q differ =
      let sum = sum_with (held k m) (shortest u) in
      subst (λ (o : Option Decimal). HoldsSum o (sum_of q done +ℤ share q (k, u)) (most q)) (sym (settled-other (is_zero sum) k q sum m (tie-bytes_eq q k ∙ differ)))
      (holds_as (held q m) _ _ (most q) (h.each q) (ap (λ (b : Bool). sum_of q done +ℤ cond b u (pos 0)) differ ∙ +ℤ_idr (sum_of q done)))

  each_more : (shortest u).places ≤ most k → (q : List ℕ) → HoldsSum (held q (added k (shortest u) m)) (sum_of q done +ℤ share q (k, u)) (most q)
  each_more less q = elim (alike k q) [
    | inl same ↦ subst (λ (x : List ℕ). HoldsSum (held x (added k (shortest u) m)) (sum_of x done +ℤ share x (k, u)) (most x)) same (here less)
    | inr differ ↦ there q differ
  ]

  -- one more entry
  pub holds_more : (shortest u).places ≤ most k → Holds most (added k (shortest u) m) (done ++ (k, u) ∷ [])
  holds_more less = record {
    ordered = AreSums-added k (shortest u) m h.ordered;
    each = λ q. holds_as (held q (added k (shortest u) m)) _ _ (most q) (each_more less q) (one_more q k u done);
  }

-- ---- an entry fits

two_fit : (d v : Decimal) (n : ℕ) → d.places ≤ n → d.places ≤ 36 → v.places ≤ n → v.places ≤ 36 → unsigned_abs (units_of d) + unsigned_abs (units_of v) < 2 ^ 127 * 10 ^ (36 - n) → add_fits d v ≡ true
two_fit d v n dn d36 vn v36 small =
    let q = min n 36 in
    let ten : ℕ = 10 ^ (36 - min n 36) in
    let same : 36 - n ≡ 36 - min n 36 = omega arith in
    let a : unsigned_abs (mantissa_at d q) * ten ≡ unsigned_abs (units_of d) = sym (unsigned_abs-mul (mantissa_at d q) (pos ten)) ∙ ap unsigned_abs (units_of-mantissa_at d q (omega arith) (omega arith)) in
    let b : unsigned_abs (mantissa_at v q) * ten ≡ unsigned_abs (units_of v) = sym (unsigned_abs-mul (mantissa_at v q) (pos ten)) ∙ ap unsigned_abs (units_of-mantissa_at v q (omega arith) (omega arith)) in
    let bound : unsigned_abs (units_of d) + unsigned_abs (units_of v) < 2 ^ 127 * ten = subst (λ (k : ℕ). unsigned_abs (units_of d) + unsigned_abs (units_of v) < 2 ^ 127 * 10 ^ k) same small in
    let scaled : (unsigned_abs (mantissa_at d q) + unsigned_abs (mantissa_at v q)) * ten < 2 ^ 127 * ten = omega (arith, a, b, bound) in
    add_fits-from_sum d v q (omega arith) (omega arith) (lt_of_mul-lt-mul_right ten scaled)

fits_found : (o : Option Decimal) (v : Decimal) (s : ℤ) (n : ℕ) → HoldsSum o s n → v.places ≤ n → v.places ≤ 36 → unsigned_abs s + unsigned_abs (units_of v) < 2 ^ 127 * 10 ^ (36 - n) → fits_with o v ≡ true
fits_found None v s n h vn v36 small = refl
fits_found (Some d) v s n h vn v36 small =
    two_fit d v n h.places h.few vn v36 (subst (λ (z : ℤ). unsigned_abs z + unsigned_abs (units_of v) < 2 ^ 127 * 10 ^ (36 - n)) (sym h.units) small)

pub fits_more : (most : List ℕ → ℕ) (m : KeptSums) (done : Sums) (k : List ℕ) (u : ℤ) → Holds most m done → (shortest u).places ≤ most k
    → turnover k (done ++ (k, u) ∷ []) < 2 ^ 127 * 10 ^ (36 - most k) → fits_with (held k m) (shortest u) ≡ true
fits_more most m done k u h less small =
    let value : unsigned_abs (share k (k, u)) ≡ unsigned_abs (units_of (shortest u)) = ap unsigned_abs (share-itself k u ∙ sym (shortest-units u)) in
    fits_found (held k m) (shortest u) (sum_of k done) (most k) (h.each k) less (shortest-few u)
    (omega (arith, small, turnover-append k done ((k, u) ∷ []), sum-le-turnover k done, value))

-- ---- many entries

-- each value needs no more decimals than are given
abbrev pub FewPlaces : (List ℕ → ℕ) → List ℕ × Decimal → Type 0
FewPlaces most entry = (shortest (units_of entry.1)).places ≤ most entry.0

abbrev pub Small : (List ℕ → ℕ) → Sums → Type 0
Small most entries = (q : List ℕ) → turnover q entries < 2 ^ 127 * 10 ^ (36 - most q)

small_first : (most : List ℕ → ℕ) (xs ys : Sums) → Small most (xs ++ ys) → Small most xs
small_first most xs ys small q = omega (arith, small q, turnover-append q xs ys)

pub each_fits : (most : List ℕ → ℕ) (m : KeptSums) (done : Sums) (es : KeptSums) → Holds most m done → AllByRecursion (FewPlaces most) es → Small most (done ++ seen es) → EachFits m es
each_fits most m done [] h few small = tt
each_fits most m done (e ∷ es) h few small =
    let u = units_of e.1 in
    let all : Small most (done ++ (e.0, u) ∷ [] ++ seen es) = subst (Small most) (sym (append_assoc done ((e.0, u) ∷ []) (seen es))) small in (
      fits_more most m done e.0 u h few.0 (small_first most (done ++ (e.0, u) ∷ []) (seen es) all e.0),
      each_fits most (added e.0 (shortest u) m) (done ++ (e.0, u) ∷ []) es (holds_more most m done e.0 u h few.0) few.1 all,
    )

pub holds_all : (most : List ℕ → ℕ) (m : KeptSums) (done : Sums) (es : KeptSums) → Holds most m done → AllByRecursion (FewPlaces most) es → Holds most (added_all m es) (done ++ seen es)
holds_all most m done [] h few = subst (Holds most m) (sym (append-nil done)) h
holds_all most m done (e ∷ es) h few =
    let u = units_of e.1 in
    subst (Holds most (added_all (added e.0 (shortest u) m) es)) (append_assoc done ((e.0, u) ∷ []) (seen es))
    (holds_all most (added e.0 (shortest u) m) (done ++ (e.0, u) ∷ []) es (holds_more most m done e.0 u h few.0) few.1)
