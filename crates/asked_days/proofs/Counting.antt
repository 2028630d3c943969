-- The counts of days, once one is counted more or less.
use Rattle.std.proofs.Common.{◌≡◌, ℕ, ◌+◌, ◌-◌, ◌<◌, ◌≤◌, ◌==◌, Bool, true, false, cond, not, List, [], ◌∷◌, ◌++◌, Option, Some, None, refl, sym, ap, subst, ◌∙◌, arith}
use Rattle.std.specs.Prelude.{nat_lt}
use Rattle.std.specs.List.{fold}
use Rattle.std.specs.declared.cmp.Ordering.{Ordering}
use Rattle.std.specs.declared.cmp.Ordering.TheVariants.{Less, Equal, Greater}
use Rattle.std.specs.Ordering.{nat_cmp, is_eq, eq_by_cmp, match_ordering}
use Rattle.std.specs.BTreeSet.{replace_key}
use Rattle.std.proofs.lemmas.Bool.{false≢true}
use Rattle.std.proofs.lemmas.Bool.Decides.{nat_tests}
use Rattle.std.proofs.lemmas.Cmp.{alike_right}
use Rattle.hl_time.specs.declared.day.Day.{Day}
use Rattle.shared_set.specs.Sorted.{without_key}
use Rattle.asked_days.specs.declared.counts.DayCount.{DayCount}
use Rattle.asked_days.specs.Asked.{how_often}
use Rattle.asked_days.specs.Counts.{count_at, count_of, counted, day_cmp, found_at, uncounted, with_count}
use Rattle.asked_days.specs.Totals.{day_total}

pub is-equal : (r : Ordering) → is_eq r ≡ true → r ≡ Equal
is-equal Less q = absurd (false≢true q)
is-equal Equal q = refl
is-equal Greater q = absurd (false≢true q)

lt-differs : (m n : ℕ) → nat_lt m n ≡ true → (m == n) ≡ false
lt-differs m n h = grind (arith, nat_tests)

pub nat-eq-is : (m n : ℕ) → is_eq (nat_cmp m n) ≡ (m == n)
nat-eq-is m n =
    elim (nat_lt m n) as (λ b. nat_lt m n ≡ b → is_eq (cond b Less (cond (m == n) Equal Greater)) ≡ (m == n)) [
      | true ↦ λ e. sym (lt-differs m n e)
      | false ↦ λ e. turn (m == n)
    ] refl
  where
    turn : (c : Bool) → is_eq (cond c Equal Greater) ≡ c
    turn true = refl
    turn false = refl

pub eq-of : (n k : ℕ) → (n == k) ≡ true → n ≡ k
eq-of n k h = grind (arith, nat_tests)

-- ---- what is found, after something is put in or taken out

abbrev probe : ℕ → DayCount → DayCount
probe d k = record k { day = record { 0 = d } }

same-if : {A : Type 0} (b c : Bool) (x y z : A) → c ≡ b → cond b x y ≡ cond b x (cond c z y)
same-if true c x y z e = refl
same-if false c x y z e = ap (λ (d : Bool). cond d z y) (sym e)

cross : {A : Type 0} (b c : Bool) (x y z : A) → (c ≡ true → b ≡ false) → cond b x (cond c y z) ≡ cond c y (cond b x z)
cross b true x y z f = ap (λ (d : Bool). cond d x y) (f refl)
cross b false x y z f = refl

pub found-put : (d : ℕ) (k : DayCount) (ws : List DayCount) → found_at d (replace_key day_cmp ws k) ≡ cond (is_eq (nat_cmp d k.day.0)) (Some k) (found_at d ws)
found-put d k [] = refl
found-put d k (x ∷ ws) =
    let rest = found-put d k ws in
    elim (day_cmp k x) as (λ r. day_cmp k x ≡ r → found_at d (match_ordering r (k ∷ x ∷ ws) (k ∷ ws) (x ∷ replace_key day_cmp ws k)) ≡ cond (is_eq (nat_cmp d k.day.0)) (Some k) (cond (is_eq (nat_cmp d x.day.0)) (Some x) (found_at d ws))) [
      | Less ↦ λ e. refl
      | Equal ↦ λ e. same-if (is_eq (nat_cmp d k.day.0)) (is_eq (nat_cmp d x.day.0)) (Some k) (found_at d ws) (Some x) (sym (ap is_eq (alike_right day_total k x (probe d k) e)))
      | Greater ↦ λ e.
          ap (cond (is_eq (nat_cmp d x.day.0)) (Some x)) rest
          ∙ cross (is_eq (nat_cmp d x.day.0)) (is_eq (nat_cmp d k.day.0)) (Some x) (Some k) (found_at d ws) (apart e)
    ] refl
  where
    apart : day_cmp k x ≡ Greater → is_eq (nat_cmp d k.day.0) ≡ true → is_eq (nat_cmp d x.day.0) ≡ false
    apart e h = ap is_eq (day_total.congr (probe d k) k x (is-equal (nat_cmp d k.day.0) h) ∙ e)

pub found-gone : (d : ℕ) (k : DayCount) (ws : List DayCount) → found_at d (without_key day_cmp k ws) ≡ cond (is_eq (nat_cmp d k.day.0)) None (found_at d ws)
found-gone d k [] = nothing (is_eq (nat_cmp d k.day.0))
  where
    nothing : (b : Bool) → ◌≡◌ {A = Option DayCount} None (cond b None None)
    nothing true = refl
    nothing false = refl
found-gone d k (x ∷ ws) =
    let rest = found-gone d k ws in
    elim (eq_by_cmp day_cmp k x) as (λ b. eq_by_cmp day_cmp k x ≡ b → found_at d (cond (not b) (x ∷ without_key day_cmp k ws) (without_key day_cmp k ws)) ≡ cond (is_eq (nat_cmp d k.day.0)) None (cond (is_eq (nat_cmp d x.day.0)) (Some x) (found_at d ws))) [
      | true ↦ λ e.
          rest ∙ same-if (is_eq (nat_cmp d k.day.0)) (is_eq (nat_cmp d x.day.0)) None (found_at d ws) (Some x) (sym (ap is_eq (alike_right day_total k x (probe d k) (is-equal (day_cmp k x) e))))
      | false ↦ λ e.
          ap (cond (is_eq (nat_cmp d x.day.0)) (Some x)) rest
          ∙ cross (is_eq (nat_cmp d x.day.0)) (is_eq (nat_cmp d k.day.0)) (Some x) None (found_at d ws) (apart e)
    ] refl
  where
    apart : eq_by_cmp day_cmp k x ≡ false → is_eq (nat_cmp d k.day.0) ≡ true → is_eq (nat_cmp d x.day.0) ≡ false
    apart e h = ap is_eq (day_total.congr (probe d k) k x (is-equal (nat_cmp d k.day.0) h)) ∙ e

-- ---- one day more or less

abbrev pub AllSome : List DayCount → Type 0
AllSome ws = (d : ℕ) (c : DayCount) → found_at d ws ≡ Some c → 0 < c.count

inner : (a b : DayCount) → Some a ≡ Some b → a ≡ b
inner a b e = cc

never : (c : DayCount) → ◌≡◌ {A = Option DayCount} None (Some c) → ⊥
never c e = cc

put-some : (k : DayCount) (ws : List DayCount) → 0 < k.count → AllSome ws → AllSome (replace_key day_cmp ws k)
put-some k ws above h = λ d c e. by d c (is_eq (nat_cmp d k.day.0)) (sym (found-put d k ws) ∙ e)
  where
    by : (d : ℕ) (c : DayCount) (b : Bool) → cond b (Some k) (found_at d ws) ≡ Some c → 0 < c.count
    by d c true e = subst (λ (x : DayCount). 0 < x.count) (inner k c e) above
    by d c false e = h d c e

gone-some : (k : DayCount) (ws : List DayCount) → AllSome ws → AllSome (without_key day_cmp k ws)
gone-some k ws h = λ d c e. by d c (is_eq (nat_cmp d k.day.0)) (sym (found-gone d k ws) ∙ e)
  where
    by : (d : ℕ) (c : DayCount) (b : Bool) → cond b None (found_at d ws) ≡ Some c → 0 < c.count
    by d c true e = absurd (never c e)
    by d c false e = h d c e

-- the count of a day after another is put there
count-put : (d : ℕ) (k : DayCount) (ws : List DayCount) → count_at d (replace_key day_cmp ws k) ≡ cond (d == k.day.0) k.count (count_at d ws)
count-put d k ws =
    ap count_of (found-put d k ws)
    ∙ ap (λ (b : Bool). count_of (cond b (Some k) (found_at d ws))) (nat-eq-is d k.day.0)
    ∙ (elim (d == k.day.0) as (λ b. count_of (cond b (Some k) (found_at d ws)) ≡ cond b k.count (count_at d ws)) [ true ↦ refl | false ↦ refl ])

count-gone : (d : ℕ) (k : DayCount) (ws : List DayCount) → count_at d (without_key day_cmp k ws) ≡ cond (d == k.day.0) 0 (count_at d ws)
count-gone d k ws =
    ap count_of (found-gone d k ws)
    ∙ ap (λ (b : Bool). count_of (cond b None (found_at d ws))) (nat-eq-is d k.day.0)
    ∙ (elim (d == k.day.0) as (λ b. count_of (cond b None (found_at d ws)) ≡ cond b 0 (count_at d ws)) [ true ↦ refl | false ↦ refl ])

count-more : (d : ℕ) (x : Day) (ws : List DayCount) → count_at d (counted ws x) ≡ cond (d == x.0) 1 0 + count_at d ws
count-more d x ws = count-put d (with_count x (count_at x.0 ws + 1)) ws ∙ by (d == x.0) refl
  where
    by : (b : Bool) → (d == x.0) ≡ b → cond b (count_at x.0 ws + 1) (count_at d ws) ≡ cond b 1 0 + count_at d ws
    by true e =
        let same : count_at d ws ≡ count_at x.0 ws = ap (λ (n : ℕ). count_at n ws) (eq-of d x.0 e) in
        omega arith
    by false e = omega arith

count-less : (d : ℕ) (x : Day) (ws : List DayCount) → count_at d (uncounted ws x) ≡ count_at d ws - cond (d == x.0) 1 0
count-less d x ws =
    elim (nat_lt 1 (count_at x.0 ws)) as (λ b. nat_lt 1 (count_at x.0 ws) ≡ b → count_at d (cond b (replace_key day_cmp ws (with_count x (count_at x.0 ws - 1))) (without_key day_cmp (with_count x 1) ws)) ≡ count_at d ws - cond (d == x.0) 1 0) [
      | true ↦ λ e. count-put d (with_count x (count_at x.0 ws - 1)) ws ∙ put (d == x.0) refl
      | false ↦ λ e. count-gone d (with_count x 1) ws ∙ gone (few (count_at x.0 ws) e) (d == x.0) refl
    ] refl
  where
    few : (n : ℕ) → nat_lt 1 n ≡ false → n ≤ 1
    few n e = grind (arith, nat_tests)

    put : (b : Bool) → (d == x.0) ≡ b → cond b (count_at x.0 ws - 1) (count_at d ws) ≡ count_at d ws - cond b 1 0
    put true e =
        let same : count_at d ws ≡ count_at x.0 ws = ap (λ (n : ℕ). count_at n ws) (eq-of d x.0 e) in
        omega arith
    put false e = omega arith

    gone : count_at x.0 ws ≤ 1 → (b : Bool) → (d == x.0) ≡ b → cond b 0 (count_at d ws) ≡ count_at d ws - cond b 1 0
    gone le true e =
        let same : count_at d ws ≡ count_at x.0 ws = ap (λ (n : ℕ). count_at n ws) (eq-of d x.0 e) in
        omega arith
    gone le false e = omega arith

some-more : (x : Day) (ws : List DayCount) → AllSome ws → AllSome (counted ws x)
some-more x ws h = put-some (with_count x (count_at x.0 ws + 1)) ws (above (count_at x.0 ws)) h
  where
    above : (n : ℕ) → 0 < n + 1
    above n = omega arith

some-less : (x : Day) (ws : List DayCount) → AllSome ws → AllSome (uncounted ws x)
some-less x ws h =
    elim (nat_lt 1 (count_at x.0 ws)) as (λ b. nat_lt 1 (count_at x.0 ws) ≡ b → AllSome (cond b (replace_key day_cmp ws (with_count x (count_at x.0 ws - 1))) (without_key day_cmp (with_count x 1) ws))) [
      | true ↦ λ e. put-some (with_count x (count_at x.0 ws - 1)) ws (above (count_at x.0 ws) e) h
      | false ↦ λ e. gone-some (with_count x 1) ws h
    ] refl
  where
    above : (n : ℕ) → nat_lt 1 n ≡ true → 0 < n - 1
    above n e = let lt : 1 < n = lt-of n e in omega arith
      where
        lt-of : (n : ℕ) → nat_lt 1 n ≡ true → 1 < n
        lt-of n e = grind (arith, nat_tests)

-- ---- some days more or less

pub how-append : (d : ℕ) (xs ys : List Day) → how_often d (xs ++ ys) ≡ how_often d xs + how_often d ys
how-append d [] ys = omega arith
how-append d (x ∷ xs) ys = let rest : how_often d (xs ++ ys) ≡ how_often d xs + how_often d ys = how-append d xs ys in omega arith

pub counts-more : (d : ℕ) (ws : List DayCount) (xs : List Day) → count_at d (fold counted ws xs) ≡ count_at d ws + how_often d xs
counts-more d ws [] = omega arith
counts-more d ws (x ∷ xs) =
    let rest : count_at d (fold counted (counted ws x) xs) ≡ count_at d (counted ws x) + how_often d xs = counts-more d (counted ws x) xs in
    let one : count_at d (counted ws x) ≡ cond (d == x.0) 1 0 + count_at d ws = count-more d x ws in
    omega arith

pub counts-fewer : (d : ℕ) (ws : List DayCount) (xs : List Day) → count_at d (fold uncounted ws xs) ≡ count_at d ws - how_often d xs
counts-fewer d ws [] = omega arith
counts-fewer d ws (x ∷ xs) =
    let rest : count_at d (fold uncounted (uncounted ws x) xs) ≡ count_at d (uncounted ws x) - how_often d xs = counts-fewer d (uncounted ws x) xs in
    let one : count_at d (uncounted ws x) ≡ count_at d ws - cond (d == x.0) 1 0 = count-less d x ws in
    omega arith

pub somes-more : (ws : List DayCount) (xs : List Day) → AllSome ws → AllSome (fold counted ws xs)
somes-more ws [] h = h
somes-more ws (x ∷ xs) h = somes-more (counted ws x) xs (some-more x ws h)

pub somes-fewer : (ws : List DayCount) (xs : List Day) → AllSome ws → AllSome (fold uncounted ws xs)
somes-fewer ws [] h = h
somes-fewer ws (x ∷ xs) h = somes-fewer (uncounted ws x) xs (some-less x ws h)
