-- Sums by symbols: one more number, look-ups, and why a sum is in range where the turnover is.
use Rattle.std.proofs.Common.{◌≡◌, ℕ, ℤ, pos, ◌+◌, ◌-◌, ◌^◌, ◌<◌, ◌≤◌, ◌+ℤ◌, ◌*ℤ◌, max, unsigned_abs, Bool, true, false, cond, ◌||◌, List, [], ◌∷◌, ◌++◌, map, filter, Option, Some, None, ◌⊎◌, inl, inr, refl, sym, ap, ◌∙◌, subst, arith}
use Rattle.std.specs.List.{fold, list_any}
use Rattle.std.specs.Str.{bytes_eq}
use Rattle.std.specs.Ordering.{nat_cmp, eq_by_cmp}
use Rattle.std.specs.Cmp.Lexicographic.{slice_cmp, nat_list_cmp_total}
use Rattle.std.specs.FinMap.Entries.{same_entries, find-put, is_sorted-put}
use Rattle.std.proofs.lemmas.Bool.{or_parts}
use Rattle.std.proofs.lemmas.Bool.Decides.{Decides-ltb}
use Rattle.std.proofs.lemmas.Int.{ints, unsigned_abs-mul}
use Rattle.std.proofs.lemmas.Nat.{pow-add}
use Rattle.std.proofs.lemmas.Slice.Eq.{bytes_eq-Decides}
use Rattle.std.proofs.lemmas.List.{append-nil}
use Rattle.std.proofs.lemmas.List.Sums.{fold-append}
use Rattle.std.proofs.Math.IntN.{+ℤ_idl}
use Rattle.hl_num.specs.Decimal.{Decimal, mantissa_at, add_fits}
use Rattle.hl_num.proofs.DecimalLemmas.{mul-add, mul-mul}
use Rattle.hl_num.proofs.DecimalLaws.{unsigned_abs-add, unsigned_abs-mantissa_at, add_fits-from_sum}
use Rattle.book.specs.Entries.{held, IsRising}
use Rattle.book.specs.Mixed.{plus, sum_with, fits_with}
use Rattle.book.proofs.Entries.{text_ties, tie-bytes_eq}
use Rattle.book.proofs.Order.{contains-each_once, sorted-each_once, find-made}
use Rattle.entry_balance.specs.Values.{Value, absolute, absolute_value}
use Rattle.entry_balance.specs.Tally.{numbers_of, no_sum, total_of, symbols_in, sums_of, is_within, are_within, turnover_fits, added_to}
use Rattle.entry_balance.proofs.Named.{both_true, left_true, right_true}

pub bytes_eq-itself : (a : List ℕ) → bytes_eq a a ≡ true
bytes_eq-itself a = (bytes_eq-Decides a a).1 refl

pub alike : (a b : List ℕ) → (a ≡ b) ⊎ (bytes_eq a b ≡ false)
alike a b = elim (bytes_eq a b) as (λ t. bytes_eq a b ≡ t → (a ≡ b) ⊎ (t ≡ false)) [ true ↦ λ e. inl ((bytes_eq-Decides a b).0 e) | false ↦ λ e. inr refl ] refl

-- ---- numbers at a number of places

abbrev pub AllAtMost : ℕ → List Decimal → Type 0
AllAtMost q [] = Unit {0}
AllAtMost q (d ∷ ds) = (d.places ≤ q) × AllAtMost q ds

-- the sum of magnitudes
abbrev pub magnitude : ℕ → List Decimal → ℕ
magnitude q [] = 0
magnitude q (d ∷ ds) = unsigned_abs (mantissa_at d q) + magnitude q ds

pub mantissa_at-plus : (a b : Decimal) (q : ℕ) → a.places ≤ q → b.places ≤ q → mantissa_at (plus a b) q ≡ mantissa_at a q +ℤ mantissa_at b q
mantissa_at-plus a b q of_a of_b =
    let p = max a.places b.places in
    let split_a : q - a.places ≡ (p - a.places) + (q - p) = omega arith in
    let split_b : q - b.places ≡ (p - b.places) + (q - p) = omega arith in
    let more_a : mantissa_at a p *ℤ pos (10 ^ (q - p)) ≡ mantissa_at a q =
    mul-mul a.mantissa (10 ^ (p - a.places)) (10 ^ (q - p)) ∙ ap (λ (n : ℕ). a.mantissa *ℤ pos n) (sym (pow-add 10 (p - a.places) (q - p)) ∙ ap (λ (k : ℕ). 10 ^ k) (sym split_a)) in
    let more_b : mantissa_at b p *ℤ pos (10 ^ (q - p)) ≡ mantissa_at b q =
    mul-mul b.mantissa (10 ^ (p - b.places)) (10 ^ (q - p)) ∙ ap (λ (n : ℕ). b.mantissa *ℤ pos n) (sym (pow-add 10 (p - b.places) (q - p)) ∙ ap (λ (k : ℕ). 10 ^ k) (sym split_b)) in
    mul-add (mantissa_at a p) (mantissa_at b p) (10 ^ (q - p)) ∙ ap (λ (x : ℤ). x +ℤ mantissa_at b p *ℤ pos (10 ^ (q - p))) more_a ∙ ap (λ (x : ℤ). mantissa_at a q +ℤ x) more_b

-- a sum is no more than the magnitudes
pub sum-within : (acc : Decimal) (ds : List Decimal) (q : ℕ) → acc.places ≤ q → AllAtMost q ds → unsigned_abs (mantissa_at (fold plus acc ds) q) ≤ unsigned_abs (mantissa_at acc q) + magnitude q ds
sum-within acc [] q few all = omega arith
sum-within acc (d ∷ ds) q few all =
    let rest = sum-within (plus acc d) ds q (omega (arith, all.0)) all.1 in
    let first = ap unsigned_abs (mantissa_at-plus acc d q few all.0) in
    omega (arith, rest, first, unsigned_abs-add (mantissa_at acc q) (mantissa_at d q))

abs_at : (d : Decimal) (q : ℕ) → mantissa_at (absolute d) q ≡ pos (unsigned_abs (mantissa_at d q))
abs_at d q = ap pos (sym (unsigned_abs-mul d.mantissa (pos (10 ^ (q - d.places)))))

-- the sum of absolute values is the magnitudes
abs-sum : (acc : Decimal) (n : ℕ) (ds : List Decimal) (q : ℕ) → acc.places ≤ q → AllAtMost q ds → mantissa_at acc q ≡ pos n → mantissa_at (fold plus acc (map absolute ds)) q ≡ pos (n + magnitude q ds)
abs-sum acc n [] q few all is = is ∙ ap pos (omega arith)
abs-sum acc n (d ∷ ds) q few all is =
    abs-sum (plus acc (absolute d)) (n + unsigned_abs (mantissa_at d q)) ds q (omega (arith, all.0)) all.1
    (mantissa_at-plus acc (absolute d) q few all.0 ∙ ap (λ (x : ℤ). x +ℤ mantissa_at (absolute d) q) is ∙ ap (λ (x : ℤ). pos n +ℤ x) (abs_at d q))
    ∙ ap pos (omega arith)

-- the places of a sum are the most of all
pub sum_places-acc : (acc : Decimal) (ds : List Decimal) → acc.places ≤ (fold plus acc ds).places
sum_places-acc acc [] = omega arith
sum_places-acc acc (d ∷ ds) = omega (arith, sum_places-acc (plus acc d) ds)

pub sum_places-all : (acc : Decimal) (ds : List Decimal) → AllAtMost (fold plus acc ds).places ds
sum_places-all acc [] = tt
sum_places-all acc (d ∷ ds) = (omega (arith, sum_places-acc (plus acc d) ds), sum_places-all (plus acc d) ds)

abs_places : (acc acc' : Decimal) (ds : List Decimal) → acc.places ≡ acc'.places → (fold plus acc (map absolute ds)).places ≡ (fold plus acc' ds).places
abs_places acc acc' [] h = h
abs_places acc acc' (d ∷ ds) h = abs_places (plus acc (absolute d)) (plus acc' d) ds (ap (λ (n : ℕ). max n d.places) h)

at_own : (m : ℤ) (p : ℕ) → m *ℤ pos (10 ^ (p - p)) ≡ m
at_own m p = let none : p - p ≡ 0 = omega arith in ap (λ (k : ℕ). m *ℤ pos (10 ^ k)) none ∙ one m
  where
    one : (m : ℤ) → m *ℤ pos (10 ^ 0) ≡ m
    one m = omega (arith, ints)

pub magnitude-append : (q : ℕ) (xs ys : List Decimal) → magnitude q (xs ++ ys) ≡ magnitude q xs + magnitude q ys
magnitude-append q [] ys = omega arith
magnitude-append q (x ∷ xs) ys = omega (arith, magnitude-append q xs ys)

pub at_most-left : (q : ℕ) (xs ys : List Decimal) → AllAtMost q (xs ++ ys) → AllAtMost q xs
at_most-left q [] ys h = tt
at_most-left q (x ∷ xs) ys h = (h.0, at_most-left q xs ys h.1)

pub at_most-right : (q : ℕ) (xs ys : List Decimal) → AllAtMost q (xs ++ ys) → AllAtMost q ys
at_most-right q [] ys h = h
at_most-right q (x ∷ xs) ys h = at_most-right q xs ys h.1

-- no sum of some first numbers has more places than all
pub places_within : (acc : Decimal) (q : ℕ) (ds : List Decimal) → acc.places ≤ q → AllAtMost q ds → (fold plus acc ds).places ≤ q
places_within acc q [] few all = few
places_within acc q (d ∷ ds) few all = places_within (plus acc d) q ds (omega (arith, all.0)) all.1

pub nothing : (q : ℕ) → mantissa_at no_sum q ≡ pos 0
nothing q = omega (arith, ints)

-- the exact sum of absolute values
pub exact-abs : (ds : List Decimal) → (fold plus no_sum (map absolute ds)).mantissa ≡ pos (magnitude (fold plus no_sum ds).places ds)
exact-abs ds =
    let whole = fold plus no_sum (map absolute ds) in
    let q = (fold plus no_sum ds).places in
    sym (at_own whole.mantissa whole.places) ∙ ap (λ (p : ℕ). whole.mantissa *ℤ pos (10 ^ (p - whole.places))) (abs_places no_sum no_sum ds refl)
    ∙ abs-sum no_sum 0 ds q (omega arith) (sum_places-all no_sum ds) (nothing q) ∙ ap pos (omega arith)

-- a number can be added to the sum of those before it, where the magnitudes of all stay within the bound
pub can_add : (xs : List Decimal) (v : Decimal) (ys : List Decimal) → is_within (fold plus no_sum (map absolute (xs ++ v ∷ ys))) ≡ true → add_fits (fold plus no_sum xs) v ≡ true
can_add xs v ys h =
    let all = xs ++ v ∷ ys in
    let whole = fold plus no_sum (map absolute all) in
    let q = (fold plus no_sum all).places in
    let few : AllAtMost q all = sum_places-all no_sum all in
    let few_xs = at_most-left q xs (v ∷ ys) few in
    let few_rest = at_most-right q xs (v ∷ ys) few in
    let small : unsigned_abs whole.mantissa < 2 ^ 127 = (Decides-ltb _ _).0 h in
    let sum = sum-within no_sum xs q (omega arith) few_xs in
    add_fits-from_sum (fold plus no_sum xs) v q (places_within no_sum q xs (omega arith) few_xs) few_rest.0
    (omega (arith, ap unsigned_abs (exact-abs all), small, sum, ap unsigned_abs (nothing q), magnitude-append q xs (v ∷ ys)))

pub magnitude-more : (p q : ℕ) (ds : List Decimal) → p ≤ q → magnitude p ds ≤ magnitude q ds
magnitude-more p q [] h = omega arith
magnitude-more p q (d ∷ ds) h = omega (arith, unsigned_abs-mantissa_at d p q h, magnitude-more p q ds h)

-- a first part is within the bound where all is
pub first_within : (xs ys : List Decimal) → is_within (fold plus no_sum (map absolute (xs ++ ys))) ≡ true → is_within (fold plus no_sum (map absolute xs)) ≡ true
first_within xs ys h =
    let p = (fold plus no_sum xs).places in
    let q = (fold plus no_sum (xs ++ ys)).places in
    let few = at_most-left q xs ys (sum_places-all no_sum (xs ++ ys)) in
    let small : unsigned_abs (fold plus no_sum (map absolute (xs ++ ys))).mantissa < 2 ^ 127 = (Decides-ltb _ _).0 h in
    (Decides-ltb _ _).1 (omega (arith, ap unsigned_abs (exact-abs xs), ap unsigned_abs (exact-abs (xs ++ ys)), small, magnitude-append q xs ys, magnitude-more p q xs (places_within no_sum q xs (omega arith) few)))

-- ---- by symbols

pub numbers-append : (s : List ℕ) (xs ys : List Value) → numbers_of s (xs ++ ys) ≡ numbers_of s xs ++ numbers_of s ys
numbers-append s [] ys = refl
numbers-append s (x ∷ xs) ys =
    elim (bytes_eq x.0 s) as (λ b. map (λ (v : Value). v.1) (cond b (x ∷ filter (λ (v : Value). bytes_eq v.0 s) (xs ++ ys)) (filter (λ (v : Value). bytes_eq v.0 s) (xs ++ ys))) ≡ map (λ (v : Value). v.1) (cond b (x ∷ filter (λ (v : Value). bytes_eq v.0 s) xs) (filter (λ (v : Value). bytes_eq v.0 s) xs)) ++ numbers_of s ys) [
      | true ↦ ap (λ t. x.1 ∷ t) (numbers-append s xs ys)
      | false ↦ numbers-append s xs ys
    ]

pub numbers-abs : (s : List ℕ) (vs : List Value) → numbers_of s (map absolute_value vs) ≡ map absolute (numbers_of s vs)
numbers-abs s [] = refl
numbers-abs s (x ∷ xs) =
    elim (bytes_eq x.0 s) as (λ b. map (λ (v : Value). v.1) (cond b (absolute_value x ∷ filter (λ (v : Value). bytes_eq v.0 s) (map absolute_value xs)) (filter (λ (v : Value). bytes_eq v.0 s) (map absolute_value xs))) ≡ map absolute (map (λ (v : Value). v.1) (cond b (x ∷ filter (λ (v : Value). bytes_eq v.0 s) xs) (filter (λ (v : Value). bytes_eq v.0 s) xs)))) [
      | true ↦ ap (λ t. absolute x.1 ∷ t) (numbers-abs s xs)
      | false ↦ numbers-abs s xs
    ]

abbrev pub has_value : List ℕ → List Value → Bool
has_value q vs = list_any (eq_by_cmp (slice_cmp nat_cmp) q) (map (λ (v : Value). v.0) vs)

no_numbers : (q : List ℕ) (vs : List Value) → has_value q vs ≡ false → numbers_of q vs ≡ []
no_numbers q [] h = refl
no_numbers q (x ∷ xs) h =
    let parts = or_parts (eq_by_cmp (slice_cmp nat_cmp) q x.0) (has_value q xs) h in
    ap (λ (b : Bool). map (λ (v : Value). v.1) (cond b (x ∷ filter (λ (v : Value). bytes_eq v.0 q) xs) (filter (λ (v : Value). bytes_eq v.0 q) xs))) (sym (tie-bytes_eq q x.0) ∙ parts.0)
    ∙ no_numbers q xs parts.1

pub held-sums : (q : List ℕ) (vs : List Value) → held q (sums_of vs) ≡ cond (has_value q vs) (Some (total_of q vs)) None
held-sums q vs =
    find-made text_ties (λ s. total_of s vs) (symbols_in vs) q
    ∙ ap (λ (b : Bool). cond b (Some (total_of q vs)) None) (contains-each_once text_ties (map (λ (v : Value). v.0) vs) q)

pub sums-rising : (vs : List Value) → IsRising (sums_of vs)
sums-rising vs = sorted-each_once text_ties (λ s. total_of s vs) nat_list_cmp_total (map (λ (v : Value). v.0) vs)

within-held : (q : List ℕ) (es : List Value) (d : Decimal) → are_within es ≡ true → held q es ≡ Some d → is_within d ≡ true
within-held q [] d h e = absurd (let no : ⊥ = cc in no)
within-held q (x ∷ es) d h e =
    let first = left_true (is_within x.1) (are_within es) h in
    let rest = right_true (is_within x.1) (are_within es) h in
    elim (eq_by_cmp (slice_cmp nat_cmp) q x.0) as (λ b. cond b (Some x.1) (held q es) ≡ Some d → is_within d ≡ true) [
      | true ↦ λ is. subst (λ (z : Decimal). is_within z ≡ true) (let same : x.1 ≡ d = cc in same) first
      | false ↦ λ is. within-held q es d rest is
    ] e

by_value : (q : List ℕ) (vs : List Value) (b : Bool) → has_value q vs ≡ b → are_within (sums_of vs) ≡ true → is_within (total_of q vs) ≡ true
by_value q vs true e h = within-held q (sums_of vs) (total_of q vs) h (held-sums q vs ∙ ap (λ (b : Bool). cond b (Some (total_of q vs)) None) e)
by_value q vs false e h = ap (λ (ds : List Decimal). is_within (fold plus no_sum ds)) (no_numbers q vs e)

-- each sum is within the bound where all are
pub total_within : (q : List ℕ) (vs : List Value) → turnover_fits vs ≡ true → is_within (fold plus no_sum (map absolute (numbers_of q vs))) ≡ true
total_within q vs h =
    ap (λ (ds : List Decimal). is_within (fold plus no_sum ds)) (sym (numbers-abs q vs)) ∙ by_value q (map absolute_value vs) _ refl h

all_within : (f : List ℕ → Decimal) (ks : List (List ℕ)) → ((s : List ℕ) → is_within (f s) ≡ true) → are_within (map (λ s. (s, f s)) ks) ≡ true
all_within f [] h = refl
all_within f (k ∷ ks) h = both_true _ _ (h k) (all_within f ks h)

pub fits-from_each : (vs : List Value) → ((q : List ℕ) → is_within (fold plus no_sum (map absolute (numbers_of q vs))) ≡ true) → turnover_fits vs ≡ true
fits-from_each vs h = all_within (λ s. total_of s (map absolute_value vs)) (symbols_in (map absolute_value vs)) (λ q. ap (λ (ds : List Decimal). is_within (fold plus no_sum ds)) (numbers-abs q vs) ∙ h q)

-- what comes first fits where all does
pub fits-first : (xs ys : List Value) → turnover_fits (xs ++ ys) ≡ true → turnover_fits xs ≡ true
fits-first xs ys h = fits-from_each xs (λ q.
    first_within (numbers_of q xs) (numbers_of q ys)
    (ap (λ (ds : List Decimal). is_within (fold plus no_sum (map absolute ds))) (sym (numbers-append q xs ys)) ∙ total_within q (xs ++ ys) h))

pub numbers-here : (s : List ℕ) (v : Decimal) (ys : List Value) → numbers_of s ((s, v) ∷ ys) ≡ v ∷ numbers_of s ys
numbers-here s v ys = ap (λ (b : Bool). map (λ (v : Value). v.1) (cond b ((s, v) ∷ filter (λ (v : Value). bytes_eq v.0 s) ys) (filter (λ (v : Value). bytes_eq v.0 s) ys))) (bytes_eq-itself s)

numbers-other : (q s : List ℕ) (v : Decimal) (ys : List Value) → bytes_eq s q ≡ false → numbers_of q ((s, v) ∷ ys) ≡ numbers_of q ys
numbers-other q s v ys e = ap (λ (b : Bool). map (λ (v : Value). v.1) (cond b ((s, v) ∷ filter (λ (v : Value). bytes_eq v.0 q) ys) (filter (λ (v : Value). bytes_eq v.0 q) ys))) e

-- a value can be added to the sums of those before it, where all that is moved fits
pub can_add_at : (before : List Value) (s : List ℕ) (v : Decimal) (after : List Value) → turnover_fits (before ++ (s, v) ∷ after) ≡ true → fits_with (held s (sums_of before)) v ≡ true
can_add_at before s v after h =
    let numbers = numbers-append s before ((s, v) ∷ after) ∙ ap (λ (ds : List Decimal). numbers_of s before ++ ds) (numbers-here s v after) in
    let fits = can_add (numbers_of s before) v (numbers_of s after)
    (ap (λ (ds : List Decimal). is_within (fold plus no_sum (map absolute ds))) (sym numbers) ∙ total_within s (before ++ (s, v) ∷ after) h) in
    ap (λ (o : Option Decimal). fits_with o v) (held-sums s before) ∙ by (has_value s before) fits
  where
    by : (b : Bool) → add_fits (total_of s before) v ≡ true → fits_with (cond b (Some (total_of s before)) None) v ≡ true
    by true fits = fits
    by false fits = refl

-- ---- one more value

pub plus_none : (v : Decimal) → plus no_sum v ≡ v
plus_none v =
    let e : max 0 v.places - v.places ≡ 0 = omega arith in
    let p : max 0 v.places ≡ v.places = omega arith in
    let m : (plus no_sum v).mantissa ≡ v.mantissa =
    ap (λ (x : ℤ). x +ℤ mantissa_at v (max 0 v.places)) (nothing (max 0 v.places)) ∙ +ℤ_idl (mantissa_at v (max 0 v.places))
    ∙ ap (λ (k : ℕ). v.mantissa *ℤ pos (10 ^ (k - v.places))) p ∙ at_own v.mantissa v.places in
    λ i. record { mantissa = m i; places = p i }

any-append : (q : List ℕ) (vs : List Value) (s : List ℕ) (v : Decimal) → has_value q (vs ++ (s, v) ∷ []) ≡ (has_value q vs || eq_by_cmp (slice_cmp nat_cmp) q s)
any-append q [] s v = or_false (eq_by_cmp (slice_cmp nat_cmp) q s)
  where
    or_false : (b : Bool) → (b || false) ≡ b
    or_false true = refl
    or_false false = refl
any-append q (x ∷ vs) s v = ap (λ b. eq_by_cmp (slice_cmp nat_cmp) q x.0 || b) (any-append q vs s v) ∙ assoc (eq_by_cmp (slice_cmp nat_cmp) q x.0) (has_value q vs) (eq_by_cmp (slice_cmp nat_cmp) q s)
  where
    assoc : (a b c : Bool) → (a || (b || c)) ≡ ((a || b) || c)
    assoc true b c = refl
    assoc false b c = refl

or_true : (b : Bool) → (b || true) ≡ true
or_true true = refl
or_true false = refl

or_no : (b : Bool) → (b || false) ≡ b
or_no true = refl
or_no false = refl

ties_itself : (k : List ℕ) → eq_by_cmp (slice_cmp nat_cmp) k k ≡ true
ties_itself k = tie-bytes_eq k k ∙ bytes_eq-itself k

module _ (vs : List Value) (s : List ℕ) (v : Decimal) where
  total-here : total_of s (vs ++ (s, v) ∷ []) ≡ plus (total_of s vs) v
  total-here = ap (fold plus no_sum) (numbers-append s vs ((s, v) ∷ []) ∙ ap (λ (ds : List Decimal). numbers_of s vs ++ ds) (numbers-here s v [])) ∙ fold-append plus no_sum (numbers_of s vs) (v ∷ [])

  sum_here : (b : Bool) → has_value s vs ≡ b → plus (total_of s vs) v ≡ sum_with (cond b (Some (total_of s vs)) None) v
  sum_here true e = refl
  sum_here false e = ap (λ (ds : List Decimal). plus (fold plus no_sum ds) v) (no_numbers s vs e) ∙ plus_none v

  found_here : held s (sums_of (vs ++ (s, v) ∷ [])) ≡ Some (sum_with (held s (sums_of vs)) v)
  found_here =
      held-sums s (vs ++ (s, v) ∷ []) ∙ ap (λ (b : Bool). cond b (Some (total_of s (vs ++ (s, v) ∷ []))) None) (any-append s vs s v ∙ ap (λ b. has_value s vs || b) (ties_itself s) ∙ or_true (has_value s vs))
      ∙ ap Some (total-here ∙ sum_here _ refl ∙ ap (λ (o : Option Decimal). sum_with o v) (sym (held-sums s vs)))

  found_other : (q : List ℕ) → bytes_eq s q ≡ false → held q (sums_of (vs ++ (s, v) ∷ [])) ≡ held q (sums_of vs)
  found_other q e =
      held-sums q (vs ++ (s, v) ∷ [])
      ∙ ap (λ (b : Bool). cond b (Some (total_of q (vs ++ (s, v) ∷ []))) None) (any-append q vs s v ∙ ap (λ b. has_value q vs || b) (tie-bytes_eq q s ∙ e) ∙ or_no (has_value q vs))
      ∙ ap (λ (ds : List Decimal). cond (has_value q vs) (Some (fold plus no_sum ds)) None) (numbers-append q vs ((s, v) ∷ []) ∙ ap (λ (ds : List Decimal). numbers_of q vs ++ ds) (numbers-other q s v [] e) ∙ append-nil (numbers_of q vs))
      ∙ sym (held-sums q vs)

  -- the sums after one more value
  pub sums-push : sums_of (vs ++ (s, v) ∷ []) ≡ added_to (sums_of vs) s v
  sums-push =
      let sum = sum_with (held s (sums_of vs)) v in
      same_entries (slice_cmp nat_cmp) nat_list_cmp_total text_ties (sums_of (vs ++ (s, v) ∷ [])) (added_to (sums_of vs) s v)
      (sums-rising (vs ++ (s, v) ∷ [])) (is_sorted-put (slice_cmp nat_cmp) nat_list_cmp_total s sum (sums_of vs) (sums-rising vs))
      (λ q. elim (alike s q) [
        | inl same ↦ subst (λ (x : List ℕ). held x (sums_of (vs ++ (s, v) ∷ [])) ≡ held x (added_to (sums_of vs) s v)) same
            (found_here ∙ sym (find-put (slice_cmp nat_cmp) nat_list_cmp_total s s sum (sums_of vs) ∙ ap (λ (b : Bool). cond b (Some sum) (held s (sums_of vs))) (ties_itself s)))
        | inr differ ↦ found_other q differ ∙ sym (find-put (slice_cmp nat_cmp) nat_list_cmp_total q s sum (sums_of vs) ∙ ap (λ (b : Bool). cond b (Some sum) (held q (sums_of vs))) (tie-bytes_eq q s ∙ differ))
      ])
