-- The first group whose transaction doesn't balance, by the days on which transactions begin.
use Rattle.std.proofs.Common.{◌≡◌, ℕ, zero, suc, ◌+◌, ◌<◌, ◌≤◌, ltb, min, Bool, true, false, cond, List, [], ◌∷◌, ◌++◌, length, map, slice_get, Option, Some, None, is_some, refl, sym, ap, ◌∙◌, arith, append_assoc, inl, inr}
use Rattle.std.specs.Prelude.{find}
use Rattle.std.specs.List.{AllByRecursion, fold}
use Rattle.std.specs.Ordering.{is_lt, nat_cmp, ordering_then}
use Rattle.std.specs.declared.cmp.Ordering.{Ordering}
use Rattle.std.specs.declared.cmp.Ordering.TheVariants.{Less, Equal, Greater}
use Rattle.std.proofs.lemmas.Bool.{cases_lt, false≢true}
use Rattle.std.proofs.lemmas.Bool.Decides.{nat_tests}
use Rattle.book.specs.declared.fault.Cause.{Cause}
use Rattle.book.specs.declared.fault.Fault.{Fault}
use Rattle.book.specs.declared.transaction.Posting.{Posting}
use Rattle.book.specs.declared.transaction.Txn.{Txn}
use Rattle.entry_balance.specs.Entry.{cause_alone}
use Rattle.balancing.specs.Groups.{Group, day_of, group_cmp, groups_by, groups_from, groups_of}
use Rattle.balancing.specs.Load.{fault_at}
use Rattle.balancing.proofs.SolvingBook.{HasNone, no_cause}
use Rattle.balancing.proofs.SolvingGroups.{group_total, is_less}
use Rattle.additions.specs.Coming.{fault_alone, fault_in, first_unbalanced, is_unbalanced}
use Rattle.additions.specs.Words.{first_at, first_day, first_in, first_of, or_sooner}
use Rattle.additions.specs.declared.firsts.First.{First}
use Rattle.additions.proofs.Finding.{find_least, least, least_parts, lesser}
use Rattle.additions.proofs.Lists.{all_append}

-- ---- which of two groups stands first

not_less : (o : Ordering) → is_lt o ≡ false → o ≡ Less → ⊥
not_less o h e = absurd (false≢true (sym h ∙ ap is_lt e))

-- of one transaction, by the day
own_days : (a d n : ℕ) → is_lt (group_cmp (a, n) (d, n)) ≡ ltb a d
own_days a d n =
    elim (nat_cmp a d) as (λ (r : Ordering). nat_cmp a d ≡ r → is_lt (ordering_then r (nat_cmp n n)) ≡ ltb a d) [
      | Less ↦ λ e. less a d e
      | Equal ↦ λ e. same a d n e
      | Greater ↦ λ e. more a d e
    ] refl
  where
    less : (a d : ℕ) → nat_cmp a d ≡ Less → true ≡ ltb a d
    less a d e = grind (arith, nat_tests)

    more : (a d : ℕ) → nat_cmp a d ≡ Greater → false ≡ ltb a d
    more a d e = grind (arith, nat_tests)

    alike : (n : ℕ) → nat_cmp n n ≡ Equal
    alike n = grind (arith, nat_tests)

    equal : (a d : ℕ) → nat_cmp a d ≡ Equal → false ≡ ltb a d
    equal a d e = grind (arith, nat_tests)

    same : (a d n : ℕ) → nat_cmp a d ≡ Equal → is_lt (nat_cmp n n) ≡ ltb a d
    same a d n e = ap is_lt (alike n) ∙ equal a d e

-- of a later transaction, by the day
later_days : (h : Group) (d n : ℕ) → n < h.1 → is_lt (group_cmp h (d, n)) ≡ ltb h.0 d
later_days h d n more =
    elim (nat_cmp h.0 d) as (λ (r : Ordering). nat_cmp h.0 d ≡ r → is_lt (ordering_then r (nat_cmp h.1 n)) ≡ ltb h.0 d) [
      | Less ↦ λ e. less h.0 d e
      | Equal ↦ λ e. ap is_lt (behind h.1 n more) ∙ equal h.0 d e
      | Greater ↦ λ e. after h.0 d e
    ] refl
  where
    less : (a d : ℕ) → nat_cmp a d ≡ Less → true ≡ ltb a d
    less a d e = grind (arith, nat_tests)

    after : (a d : ℕ) → nat_cmp a d ≡ Greater → false ≡ ltb a d
    after a d e = grind (arith, nat_tests)

    behind : (m n : ℕ) → n < m → nat_cmp m n ≡ Greater
    behind m n e = grind (arith, nat_tests)

    equal : (a d : ℕ) → nat_cmp a d ≡ Equal → false ≡ ltb a d
    equal a d e = grind (arith, nat_tests)

test_less : (a d : ℕ) → a < d → ltb a d ≡ true
test_less a d h = grind (arith, nat_tests)

test_not : (a d : ℕ) → d ≤ a → ltb a d ≡ false
test_not a d h = grind (arith, nat_tests)

min_first : (d a : ℕ) → d ≤ a → min d a ≡ d
min_first d a h = omega (arith, h)

min_second : (d a : ℕ) → a < d → min d a ≡ a
min_second d a h = omega (arith, h)

-- of two groups of one transaction
pick_two : (d a n : ℕ) → lesser (d, n) (Some (a, n)) ≡ (min d a, n)
pick_two d a n =
    ap (λ (b : Bool). cond {A = Group} b (a, n) (d, n)) (own_days a d n)
    ∙ (elim (cases_lt a d) [
      | inl h ↦ ap (λ (b : Bool). cond {A = Group} b (a, n) (d, n)) (test_less a d h) ∙ (λ i. (sym (min_second d a h) i, n))
      | inr h ↦ ap (λ (b : Bool). cond {A = Group} b (a, n) (d, n)) (test_not a d h) ∙ (λ i. (sym (min_first d a h) i, n))
    ])

day_less : (a d n : ℕ) → a < d → group_cmp (a, n) (d, n) ≡ Less
day_less a d n h = is_less (group_cmp (a, n) (d, n)) (own_days a d n ∙ test_less a d h)

not_before : (h : Group) (d a n : ℕ) → d < a → is_lt (group_cmp h (a, n)) ≡ false → is_lt (group_cmp h (d, n)) ≡ false
not_before h d a n less none = by (is_lt (group_cmp h (d, n))) refl
  where
    by : (b : Bool) → is_lt (group_cmp h (d, n)) ≡ b → b ≡ false
    by true e = absurd (not_less (group_cmp h (a, n)) none (group_total.trans h (d, n) (a, n) (is_less (group_cmp h (d, n)) e) (day_less d a n less)))
    by false e = refl

-- one more group of a transaction
lesser_own : (d a n : ℕ) (o : Option Group) → lesser (d, n) (Some (lesser (a, n) o)) ≡ lesser (min d a, n) o
lesser_own d a n None = pick_two d a n
lesser_own d a n (Some h) = by (is_lt (group_cmp h (a, n))) refl
  where
    first : is_lt (group_cmp h (a, n)) ≡ true → lesser (d, n) (Some h) ≡ lesser (min d a, n) (Some h)
    first e =
        elim (cases_lt a d) [
          | inl l ↦
              let lt : is_lt (group_cmp h (d, n)) ≡ true = ap is_lt (group_total.trans h (a, n) (d, n) (is_less (group_cmp h (a, n)) e) (day_less a d n l)) in
              ap (λ (b : Bool). cond {A = Group} b h (d, n)) lt
              ∙ sym (ap (λ (m : ℕ). cond {A = Group} (is_lt (group_cmp h (m, n))) h (m, n)) (min_second d a l) ∙ ap (λ (b : Bool). cond {A = Group} b h (a, n)) e)
          | inr l ↦ ap (λ (m : ℕ). cond {A = Group} (is_lt (group_cmp h (m, n))) h (m, n)) (sym (min_first d a l))
        ]

    none_at : is_lt (group_cmp h (a, n)) ≡ false → is_lt (group_cmp h (min d a, n)) ≡ false
    none_at e =
        elim (cases_lt d a) [
          | inl l ↦ ap (λ (m : ℕ). is_lt (group_cmp h (m, n))) (let s : min d a ≡ d = omega (arith, l) in s) ∙ not_before h d a n l e
          | inr l ↦ ap (λ (m : ℕ). is_lt (group_cmp h (m, n))) (let s : min d a ≡ a = omega (arith, l) in s) ∙ e
        ]

    by : (b : Bool) → is_lt (group_cmp h (a, n)) ≡ b → lesser (d, n) (Some (cond {A = Group} b h (a, n))) ≡ lesser (min d a, n) (Some h)
    by true e = first e
    by false e = pick_two d a n ∙ sym (ap (λ (b : Bool). cond {A = Group} b h (min d a, n)) (none_at e))

-- ---- transactions by their numbers

pub slice_front : (xs ys : List Txn) (i : ℕ) (t : Txn) → slice_get xs i ≡ Some t → slice_get (xs ++ ys) i ≡ Some t
slice_front [] ys i t h = absurd (let never : ⊥ = cc in never)
slice_front (x ∷ xs) ys zero t h = h
slice_front (x ∷ xs) ys (suc i) t h = slice_front xs ys i t h

pub slice_behind : (xs ys : List Txn) (i : ℕ) → slice_get (xs ++ ys) (length xs + i) ≡ slice_get ys i
slice_behind [] ys i = ap (slice_get ys) (let e : 0 + i ≡ i = omega arith in e)
slice_behind (x ∷ xs) ys i = ap (slice_get (x ∷ (xs ++ ys))) (let e : suc (length xs) + i ≡ suc (length xs + i) = omega arith in e) ∙ slice_behind xs ys i

groups_parts : (n : ℕ) (ts us : List Txn) → groups_from n (ts ++ us) ≡ groups_from n ts ++ groups_from (n + length ts) us
groups_parts n [] us = ap (λ (k : ℕ). groups_from k us) (let e : n ≡ n + 0 = omega arith in e)
groups_parts n (t ∷ ts) us =
    ap (λ (gs : List Group). groups_by n t t.postings ++ gs) (groups_parts (n + 1) ts us ∙ ap (λ (k : ℕ). groups_from (n + 1) ts ++ groups_from k us) (let e : n + 1 + length ts ≡ n + suc (length ts) = omega arith in e))
    ∙ sym (append_assoc (groups_by n t t.postings) (groups_from (n + 1) ts) (groups_from (n + length (t ∷ ts)) us))

own_number : (m n : ℕ) (t : Txn) (ps : List Posting) → m ≤ n → AllByRecursion (λ (g : Group). m ≤ g.1) (map (λ q. (day_of t q, n)) ps)
own_number m n t [] h = tt
own_number m n t (p ∷ ps) h = (h, own_number m n t ps h)

by_number : (m n : ℕ) (t : Txn) (ps : List Posting) → m ≤ n → AllByRecursion (λ (g : Group). m ≤ g.1) (groups_by n t ps)
by_number m n t [] h = (h, tt)
by_number m n t (p ∷ ps) h = own_number m n t (p ∷ ps) h

numbers : (m n : ℕ) (us : List Txn) → m ≤ n → AllByRecursion (λ (g : Group). m ≤ g.1) (groups_from n us)
numbers m n [] h = tt
numbers m n (u ∷ us) h = all_append (λ (g : Group). m ≤ g.1) (groups_by n u u.postings) (groups_from (n + 1) us) (by_number m n u u.postings h) (numbers m (n + 1) us (omega (arith, h)))

-- ---- those that don't balance

some_fault : (o : Option Fault) → is_some o ≡ true → (f : Fault) × (o ≡ Some f)
some_fault None h = absurd (false≢true h)
some_fault (Some f) h = (f, refl)

no_fault : (o : Option Fault) → is_some o ≡ false → o ≡ None
no_fault None h = refl
no_fault (Some f) h = absurd (false≢true (sym h))

module _ (at : ℕ → Option Txn) where
  abbrev pub fails : Group → Bool
  fails g = is_unbalanced (at g.1)

  abbrev pub told : Option Group → Option First
  told None = None
  told (Some g) = first_at g.0 (fault_alone (at g.1))

  abbrev Later : ℕ → Option Group → Type 0
  Later n None = Unit {0}
  Later n (Some g) = (n ≤ g.1) × (fails g ≡ true)

  chosen_later : (n : ℕ) (b : Bool) (g h : Group) → Later n (Some g) → Later n (Some h) → Later n (Some (cond b h g))
  chosen_later n true g h x y = y
  chosen_later n false g h x y = x

  lesser_later : (n : ℕ) (g : Group) (o : Option Group) → Later n (Some g) → Later n o → Later n (Some (lesser g o))
  lesser_later n g None x y = x
  lesser_later n g (Some h) x y = chosen_later n (is_lt (group_cmp h g)) g h x y

  least_later : (n : ℕ) (gs : List Group) → AllByRecursion (λ g. n ≤ g.1) gs → Later n (least fails gs)
  least_later n [] h = tt
  least_later n (g ∷ gs) h = by (fails g) refl (least_later n gs h.1)
    where
      by : (b : Bool) → fails g ≡ b → Later n (least fails gs) → Later n (cond b (Some (lesser g (least fails gs))) (least fails gs))
      by true e rest = lesser_later n g (least fails gs) (h.0, e) rest
      by false e rest = rest

  -- the groups of one transaction before others
  module _ (u : Txn) (n : ℕ) (rest : List Group) where
    none_own : (ps : List Posting) → is_unbalanced (at n) ≡ false → AllByRecursion (λ g. fails g ≡ false) (map (λ q. (day_of u q, n)) ps)
    none_own [] e = tt
    none_own (p ∷ ps) e = (e, none_own ps e)

    none_by : (ps : List Posting) → is_unbalanced (at n) ≡ false → AllByRecursion (λ g. fails g ≡ false) (groups_by n u ps)
    none_by [] e = (e, tt)
    none_by (p ∷ ps) e = none_own (p ∷ ps) e

    all_days : (d : ℕ) (ps : List Posting) → is_unbalanced (at n) ≡ true → lesser (d, n) (least fails (map (λ q. (day_of u q, n)) ps ++ rest)) ≡ lesser (fold (λ k q. min k (day_of u q)) d ps, n) (least fails rest)
    all_days d [] e = refl
    all_days d (p ∷ ps) e =
        let more = least fails (map (λ q. (day_of u q, n)) ps ++ rest) in
        ap (λ (b : Bool). lesser (d, n) (cond {A = Option Group} b (Some (lesser (day_of u p, n) more)) more)) e
        ∙ lesser_own d (day_of u p) n more
        ∙ all_days (min d (day_of u p)) ps e

    by_least : (ps : List Posting) → is_unbalanced (at n) ≡ true → least fails (groups_by n u ps ++ rest) ≡ Some (lesser (first_of u ps, n) (least fails rest))
    by_least [] e = ap (λ (b : Bool). cond {A = Option Group} b (Some (lesser (u.day.0, n) (least fails rest))) (least fails rest)) e
    by_least (p ∷ ps) e =
        let more = least fails (map (λ q. (day_of u q, n)) ps ++ rest) in
        ap (λ (b : Bool). cond {A = Option Group} b (Some (lesser (day_of u p, n) more)) more) e
        ∙ ap (λ (g : Group). Some g) (all_days (day_of u p) ps e)

  alone_first : (d : ℕ) (o : Option Fault) → first_at d o ≡ or_sooner (first_at d o) None
  alone_first d None = refl
  alone_first d (Some f) = refl

  abbrev as_first : ℕ → Fault → First
  as_first d f = record { day = d; fault = f }

  tell_both : (b : Bool) (d n : ℕ) (h : Group) (x y : Fault) → fault_alone (at n) ≡ Some x → fault_alone (at h.1) ≡ Some y → told (Some (cond b h (d, n))) ≡ Some (cond b (as_first h.0 y) (as_first d x))
  tell_both true d n h x y e f = ap (first_at h.0) f
  tell_both false d n h x y e f = ap (first_at d) e

  told_sooner : (d n : ℕ) (o : Option Group) → is_unbalanced (at n) ≡ true → Later (n + 1) o → told (Some (lesser (d, n) o)) ≡ or_sooner (first_at d (fault_alone (at n))) (told o)
  told_sooner d n None e l = alone_first d (fault_alone (at n))
  told_sooner d n (Some h) e l =
      let own = some_fault (fault_alone (at n)) e in
      let other = some_fault (fault_alone (at h.1)) l.1 in
      ap (λ (b : Bool). told (Some (cond {A = Group} b h (d, n)))) (later_days h d n (omega (arith, l.0)))
      ∙ tell_both (ltb h.0 d) d n h own.0 other.0 own.1 other.1
      ∙ sym ((λ i. or_sooner (first_at d (own.1 i)) (first_at h.0 (other.1 i))))

  -- The first fault of some transactions is that of their first group that fails.
  pub firsts : (n : ℕ) (us : List Txn) → ((i : ℕ) → at (n + i) ≡ slice_get us i) → first_in us ≡ told (least fails (groups_from n us))
  firsts n [] h = refl
  firsts n (u ∷ us) h =
      let again = firsts (n + 1) us (λ i. ap at (let e : n + 1 + i ≡ n + suc i = omega arith in e) ∙ h (suc i)) in
      by (is_unbalanced (at n)) refl again
    where
      rest : List Group
      rest = groups_from (n + 1) us

      here : at n ≡ Some u
      here = ap at (let e : n ≡ n + 0 = omega arith in e) ∙ h 0

      own : Option First
      own = first_at (first_day u) (fault_at u.line (cause_alone u.postings))

      own_is : own ≡ first_at (first_day u) (fault_alone (at n))
      own_is = ap (λ (o : Option Txn). first_at (first_day u) (fault_alone o)) (sym here)

      later : Later (n + 1) (least fails rest)
      later = least_later (n + 1) rest (numbers (n + 1) (n + 1) us (omega arith))

      by : (b : Bool) → is_unbalanced (at n) ≡ b → first_in us ≡ told (least fails rest) → or_sooner own (first_in us) ≡ told (least fails (groups_by n u u.postings ++ rest))
      by true e again =
          (λ i. or_sooner (own_is i) (again i))
          ∙ sym (ap told (by_least u n rest u.postings e) ∙ told_sooner (first_day u) n (least fails rest) e later)
      by false e again =
          (λ i. or_sooner ((own_is ∙ ap (first_at (first_day u)) (no_fault (fault_alone (at n)) e)) i) (again i))
          ∙ sym (ap told (least_parts fails (groups_by n u u.postings) rest (none_by u n rest u.postings e)))

  -- none of those that balance fails
  pub none_fail : (n : ℕ) (ts : List Txn) → ((i : ℕ) (t : Txn) → slice_get ts i ≡ Some t → at (n + i) ≡ Some t) → AllByRecursion (λ t. cause_alone t.postings ≡ None) ts → AllByRecursion (λ g. fails g ≡ false) (groups_from n ts)
  none_fail n [] h k = tt
  none_fail n (t ∷ ts) h k =
      let here : at n ≡ Some t = ap at (let e : n ≡ n + 0 = omega arith in e) ∙ h 0 t refl in
      let none : is_unbalanced (at n) ≡ false = ap is_unbalanced here ∙ ap (λ (c : Option Cause). is_some (fault_at t.line c)) k.0 in
      all_append (λ g. fails g ≡ false) (groups_by n t t.postings) (groups_from (n + 1) ts) (none_by t n [] t.postings none)
      (none_fail (n + 1) ts (λ i u is. ap at (let e : n + 1 + i ≡ n + suc i = omega arith in e) ∙ h (suc i) u is) k.1)

-- ---- the first fault

abbrev pub fault_of : Option First → Option Fault
fault_of None = None
fault_of (Some f) = Some f.fault

first_fault : (d : ℕ) (o : Option Fault) → fault_of (first_at d o) ≡ o
first_fault d None = refl
first_fault d (Some f) = refl

fault_is : (us : List Txn) (o : Option Group) → fault_in us o ≡ fault_of (told (slice_get us) o)
fault_is us None = refl
fault_is us (Some g) = sym (first_fault g.0 (fault_alone (slice_get us g.1)))

no_more : (i : ℕ) → 0 + i ≡ i
no_more i = omega arith

-- the first fault of some transactions
pub unbalanced_is : (us : List Txn) → first_unbalanced us ≡ fault_of (first_in us)
unbalanced_is us =
    ap (fault_in us) (find_least (fails (slice_get us)) (groups_from 0 us))
    ∙ fault_is us (least (fails (slice_get us)) (groups_from 0 us))
    ∙ ap fault_of (sym (firsts (slice_get us) 0 us (λ i. ap (slice_get us) (no_more i))))

-- Behind others that balance, the first fault is the same.
pub unbalanced_behind : (ms us : List Txn) → AllByRecursion (λ t. cause_alone t.postings ≡ None) ms → first_unbalanced (ms ++ us) ≡ first_unbalanced us
unbalanced_behind ms us balanced =
    let all = ms ++ us in
    let at = slice_get all in
    let k = 0 + length ms in
    let found : find (fails at) (groups_of all) ≡ least (fails at) (groups_from k us) =
    find_least (fails at) (groups_from 0 all) ∙ ap (least (fails at)) (groups_parts 0 ms us)
    ∙ least_parts (fails at) (groups_from 0 ms) (groups_from k us) (none_fail at 0 ms (λ i t is. ap at (no_more i) ∙ slice_front ms us i t is) balanced) in
    ap (fault_in all) found
    ∙ fault_is all (least (fails at) (groups_from k us))
    ∙ ap fault_of (sym (firsts at k us (λ i. ap (λ (n : ℕ). at (n + i)) (no_more (length ms)) ∙ slice_behind ms us i)))
    ∙ sym (unbalanced_is us)

-- ---- where there is none

none_both : (a b : Option First) → or_sooner a b ≡ None → (a ≡ None) × (b ≡ None)
none_both None b h = (refl, h)
none_both (Some a) None h = absurd (let never : ⊥ = cc in never)
none_both (Some a) (Some b) h = absurd (let never : ⊥ = cc in never)

none_at : (d : ℕ) (o : Option Fault) → first_at d o ≡ None → o ≡ None
none_at d None h = refl
none_at d (Some f) h = absurd (let never : ⊥ = cc in never)

none_of_all : (us : List Txn) → first_in us ≡ None → AllByRecursion (λ t. cause_alone t.postings ≡ None) us
none_of_all [] h = tt
none_of_all (u ∷ us) h =
    let parts = none_both (first_at (first_day u) (fault_at u.line (cause_alone u.postings))) (first_in us) h in
    (no_cause u.line (cause_alone u.postings) (none_at (first_day u) (fault_at u.line (cause_alone u.postings)) parts.0), none_of_all us parts.1)

none_first : (o : Option First) → fault_of o ≡ None → o ≡ None
none_first None h = refl
none_first (Some f) h = absurd (let never : ⊥ = cc in never)

-- then each balances
pub all_balanced : (us : List Txn) → first_unbalanced us ≡ None → AllByRecursion (λ t. cause_alone t.postings ≡ None) us
all_balanced us h = none_of_all us (none_first (first_in us) (sym (unbalanced_is us) ∙ h))

-- a transaction that doesn't fail balances
pub has_none : (o : Option Txn) → is_unbalanced o ≡ false → HasNone o
has_none None h = tt
has_none (Some t) h = no_cause t.line (cause_alone t.postings) (no_fault (fault_at t.line (cause_alone t.postings)) h)
