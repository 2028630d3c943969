-- The last day on which something is asked.
use Rattle.std.proofs.Common.{◌≡◌, ℕ, ◌+◌, ◌<◌, ◌≤◌, ◌==◌, max, Bool, true, false, cond, List, [], ◌∷◌, ◌++◌, Option, Some, None, is_some, refl, sym, ap, subst, ◌∙◌, arith}
use Rattle.std.specs.Prelude.{nat_lt}
use Rattle.std.specs.List.{AllByRecursion, flat_map, fold}
use Rattle.std.specs.declared.cmp.Ordering.TheVariants.{Less, Equal, Greater}
use Rattle.std.specs.Ordering.{nat_cmp, is_eq}
use Rattle.std.proofs.lemmas.Bool.{ltb-false}
use Rattle.std.proofs.lemmas.Bool.Decides.{nat_tests}
use Rattle.hl_time.specs.declared.day.Day.{Day}
use Rattle.shared_set.specs.Sorted.{Rises, find_last, or_other}
use Rattle.book.specs.declared.amount.Assertion.{Assertion}
use Rattle.book.specs.declared.transaction.Posting.{Posting}
use Rattle.book.specs.declared.transaction.Txn.{Txn}
use Rattle.asked_days.specs.declared.counts.DayCount.{DayCount}
use Rattle.asked_days.specs.Asked.{IsKept, asked_on, asked_through, day_of, days_if, days_of, days_of_posting, how_often, last_asked}
use Rattle.asked_days.specs.Counts.{count_at, count_of, day_cmp, day_if, found_at, last_day}
use Rattle.asked_days.proofs.Counting.{eq-of, nat-eq-is}

-- ---- the greatest of some days

abbrev pub greatest : List Day → ℕ
greatest [] = 0
greatest (d ∷ ds) = max d.0 (greatest ds)

greatest-append : (xs ys : List Day) → greatest (xs ++ ys) ≡ max (greatest xs) (greatest ys)
greatest-append [] ys = omega arith
greatest-append (x ∷ xs) ys = let rest : greatest (xs ++ ys) ≡ max (greatest xs) (greatest ys) = greatest-append xs ys in omega arith

posting-greatest : (t : Txn) (p : Posting) → greatest (days_of_posting t p) ≡ asked_on t p
posting-greatest t p = by p.wanted
  where
    by : (o : Option Assertion) → greatest (days_if o (day_of t p)) ≡ cond (is_some o) (day_of t p).0 0
    by None = refl
    by (Some w) = omega arith

postings-greatest : (t : Txn) (ps : List Posting) (l : ℕ) → fold (λ l p. max l (asked_on t p)) l ps ≡ max l (greatest (flat_map (days_of_posting t) ps))
postings-greatest t [] l = omega arith
postings-greatest t (p ∷ ps) l =
    let rest : fold (λ l p. max l (asked_on t p)) (max l (asked_on t p)) ps ≡ max (max l (asked_on t p)) (greatest (flat_map (days_of_posting t) ps)) = postings-greatest t ps (max l (asked_on t p)) in
    let own : greatest (days_of_posting t p) ≡ asked_on t p = posting-greatest t p in
    let all : greatest (days_of_posting t p ++ flat_map (days_of_posting t) ps) ≡ max (greatest (days_of_posting t p)) (greatest (flat_map (days_of_posting t) ps)) = greatest-append (days_of_posting t p) (flat_map (days_of_posting t) ps) in
    omega arith

book-greatest : (txns : List Txn) (l : ℕ) → fold asked_through l txns ≡ max l (greatest (flat_map days_of txns))
book-greatest [] l = omega arith
book-greatest (t ∷ txns) l =
    let rest : fold asked_through (asked_through l t) txns ≡ max (asked_through l t) (greatest (flat_map days_of txns)) = book-greatest txns (asked_through l t) in
    let own : asked_through l t ≡ max l (greatest (days_of t)) = postings-greatest t t.postings l in
    let all : greatest (days_of t ++ flat_map days_of txns) ≡ max (greatest (days_of t)) (greatest (flat_map days_of txns)) = greatest-append (days_of t) (flat_map days_of txns) in
    omega arith

pub last-asked : (txns : List Txn) → last_asked txns ≡ greatest (flat_map days_of txns)
last-asked txns = let all : fold asked_through 0 txns ≡ max 0 (greatest (flat_map days_of txns)) = book-greatest txns 0 in omega arith

-- ---- the greatest, by how often each day is there

up-to : (m : ℕ) (ds : List Day) → ((d : ℕ) → nat_lt m d ≡ true → how_often d ds ≡ 0) → greatest ds ≤ m
up-to m [] f = omega arith
up-to m (x ∷ ds) f =
    let rest = up-to m ds (λ d lt. fewer (cond (d == x.0) 1 0) (how_often d ds) (f d lt)) in
    let first = within (nat_lt m x.0) refl in
    omega arith
  where
    fewer : (a b : ℕ) → a + b ≡ 0 → b ≡ 0
    fewer a b h = omega arith

    some : (b : ℕ) → 1 + b ≡ 0 → ⊥
    some b h = omega arith

    self : (n : ℕ) → (n == n) ≡ true
    self n = grind (arith, nat_tests)

    within : (b : Bool) → nat_lt m x.0 ≡ b → x.0 ≤ m
    within true r = absurd (some (how_often x.0 ds) (ap (λ (b : Bool). cond b 1 0 + how_often x.0 ds) (sym (self x.0)) ∙ f x.0 r))
    within false r = ltb-false m x.0 r

up-from : (m : ℕ) (ds : List Day) → 0 < how_often m ds → m ≤ greatest ds
up-from m [] h = absurd (never h)
  where
    never : 0 < 0 → ⊥
    never h = omega arith
up-from m (x ∷ ds) h = by (λ k. up-from m ds k) (m == x.0) refl h
  where
    by : (0 < how_often m ds → m ≤ greatest ds) → (b : Bool) → (m == x.0) ≡ b → 0 < cond b 1 0 + how_often m ds → m ≤ max x.0 (greatest ds)
    by rest true r k = let same : m ≡ x.0 = eq-of m x.0 r in omega arith
    by rest false r k =
        let more : 0 < how_often m ds = omega arith in
        let up : m ≤ greatest ds = rest more in
        omega arith

-- ---- the last that is kept

abbrev IsLast : List DayCount → Option DayCount → Type 0
IsLast ws None = (d : ℕ) → found_at d ws ≡ None
IsLast ws (Some m) = (found_at m.day.0 ws ≡ Some m) × ((d : ℕ) → nat_lt m.day.0 d ≡ true → found_at d ws ≡ None)

abbrev any : DayCount → Bool
any c = true

self-eq : (n : ℕ) → is_eq (nat_cmp n n) ≡ true
self-eq n = nat-eq-is n n ∙ self n
  where
    self : (n : ℕ) → (n == n) ≡ true
    self n = grind (arith, nat_tests)

past-eq : (n k : ℕ) → nat_lt k n ≡ true → is_eq (nat_cmp n k) ≡ false
past-eq n k h = nat-eq-is n k ∙ differ n k h
  where
    differ : (n k : ℕ) → nat_lt k n ≡ true → (n == k) ≡ false
    differ n k h = grind (arith, nat_tests)

less-of : (a b : DayCount) → day_cmp a b ≡ Less → nat_lt a.day.0 b.day.0 ≡ true
less-of a b k =
    elim (nat_lt a.day.0 b.day.0) as (λ c. cond c Less (cond (a.day.0 == b.day.0) Equal Greater) ≡ Less → c ≡ true) [
      | true ↦ λ f. refl
      | false ↦ λ f. absurd (never (a.day.0 == b.day.0) f)
    ] k
  where
    never : (c : Bool) → cond c Equal Greater ≡ Less → ⊥
    never true f = cc
    never false f = cc

inner : (a b : DayCount) → Some a ≡ Some b → a ≡ b
inner a b e = cc

none-some : (a : DayCount) → ◌≡◌ {A = Option DayCount} None (Some a) → ⊥
none-some a e = cc

some-none : (o : Option DayCount) (a : DayCount) → or_other o (Some a) ≡ None → ⊥
some-none None a e = cc
some-none (Some b) a e = cc

-- the last of those above another is above it
last-above : (x m : DayCount) (ws : List DayCount) → AllByRecursion (λ y. day_cmp x y ≡ Less) ws → find_last any ws ≡ Some m → nat_lt x.day.0 m.day.0 ≡ true
last-above x m [] h e = absurd (none-some m e)
last-above x m (y ∷ ws) h e = by (find_last any ws) refl e (λ k. last-above x m ws h.1 k)
  where
    by : (o : Option DayCount) → find_last any ws ≡ o → or_other o (Some y) ≡ Some m → (find_last any ws ≡ Some m → nat_lt x.day.0 m.day.0 ≡ true) → nat_lt x.day.0 m.day.0 ≡ true
    by None k f rest = subst (λ (w : DayCount). nat_lt x.day.0 w.day.0 ≡ true) (inner y m f) (less-of x y h.0)
    by (Some z) k f rest = rest (k ∙ f)

both-less : (a b c : ℕ) → nat_lt a b ≡ true → nat_lt b c ≡ true → nat_lt a c ≡ true
both-less a b c h k = grind (arith, nat_tests)

past-first : (d : ℕ) (x : DayCount) (ws : List DayCount) → nat_lt x.day.0 d ≡ true → found_at d (x ∷ ws) ≡ found_at d ws
past-first d x ws lt = ap (λ (b : Bool). cond b (Some x) (found_at d ws)) (past-eq d x.day.0 lt)

none-last : (ws : List DayCount) → find_last any ws ≡ None → (d : ℕ) → found_at d ws ≡ None
none-last [] e d = refl
none-last (y ∷ ws) e d = absurd (some-none (find_last any ws) y e)

last-is : (ws : List DayCount) → Rises day_cmp ws → IsLast ws (find_last any ws)
last-is [] h = λ d. refl
last-is (x ∷ ws) h = by (find_last any ws) refl (last-is ws h.1)
  where
    by : (o : Option DayCount) → find_last any ws ≡ o → IsLast ws o → IsLast (x ∷ ws) (or_other o (Some x))
    by None e k = (
      ap (λ (b : Bool). cond b (Some x) (found_at x.day.0 ws)) (self-eq x.day.0),
      λ d lt. past-first d x ws lt ∙ none-last ws e d,
    )
    by (Some m) e k =
        let lower : nat_lt x.day.0 m.day.0 ≡ true = last-above x m ws h.0 e in
        (past-first m.day.0 x ws lower ∙ k.0, λ d lt. past-first d x ws (both-less x.day.0 m.day.0 d lower lt) ∙ k.1 d lt)

none-greatest : (ds : List Day) → ((d : ℕ) → how_often d ds ≡ 0) → greatest ds ≡ 0
none-greatest ds f = let le : greatest ds ≤ 0 = up-to 0 ds (λ d lt. f d) in omega arith

kept-greatest : (ds : List Day) (ws : List DayCount) → IsKept ds ws → (o : Option DayCount) → IsLast ws o → day_if o ≡ greatest ds
kept-greatest ds ws h None k = sym (none-greatest ds (λ d. sym (h.counts d) ∙ ap count_of (k d)))
kept-greatest ds ws h (Some m) k =
    let there : count_at m.day.0 ws ≡ m.count = ap count_of k.0 in
    let count : how_often m.day.0 ds ≡ m.count = sym (h.counts m.day.0) ∙ there in
    let above : 0 < m.count = h.some m.day.0 m k.0 in
    let more : 0 < how_often m.day.0 ds = subst (λ (n : ℕ). 0 < n) (sym count) above in
    let high : m.day.0 ≤ greatest ds = up-from m.day.0 ds more in
    let low : greatest ds ≤ m.day.0 = up-to m.day.0 ds (λ d lt. sym (h.counts d) ∙ ap count_of (k.1 d lt)) in
    omega arith

pub last-kept : (book : List Txn) (ws : List DayCount) → Rises day_cmp ws → IsKept (flat_map days_of book) ws → last_day ws ≡ last_asked book
last-kept book ws up h = kept-greatest (flat_map days_of book) ws h (find_last any ws) (last-is ws up) ∙ sym (last-asked book)
