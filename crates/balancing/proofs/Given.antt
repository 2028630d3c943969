-- The assignments of groups, made one group after another.
use Rattle.std.proofs.Common.{◌≡◌, ℕ, zero, suc, ◌+◌, ◌<◌, ◌≤◌, Bool, true, false, not, ◌&&◌, ◌||◌, cond, List, [], ◌∷◌, ◌++◌, map, length, set, ◌⊎◌, inl, inr, Option, Some, None, is_some, is_none, refl, sym, ap, ◌∙◌, subst, arith}
use Rattle.std.specs.List.{flat_map, list_all, list_any, slice_get, AllByRecursion}
use Rattle.std.specs.Ordering.{eq_by_cmp, match_ordering}
use Rattle.std.specs.declared.cmp.Ordering.TheVariants.{Less, Equal, Greater}
use Rattle.std.specs.BTreeSet.{insert_key}
use Rattle.std.specs.Prelude.{unwrap_or}
use Rattle.std.proofs.lemmas.List.{append_assoc}
use Rattle.std.proofs.lemmas.Bool.{false≢true, or_parts, cases_lt}
use Rattle.hl_num.specs.Decimal.{Decimal}
use Rattle.book.specs.declared.amount.Amount.{Amount}
use Rattle.book.specs.declared.amount.Assertion.{Assertion}
use Rattle.book.specs.declared.amount.Cost.TheVariants.{Total}
use Rattle.book.specs.declared.fault.Cause.TheVariants as cause
use Rattle.book.specs.declared.fault.Cause.{Cause}
use Rattle.book.specs.declared.transaction.Posting.{Posting}
use Rattle.book.specs.declared.transaction.Txn.{Txn}
use Rattle.book.specs.Order.{each_once}
use Rattle.book.proofs.Order.{contains-each_once, is_equal}
use Rattle.entry_balance.specs.Entry.{has_assignment, is_assignment, is_assignable, assignment_fault, is_dated, is_date_tag, lacks_two, is_real_of, plain_amount, with_postings, settled, solved_posting, found_posting, costed_posting, recorded_cost, found_values}
use Rattle.entry_balance.specs.Settled.{IsSettled, AreSettled}
use Rattle.entry_balance.specs.Values.{Value}
use Rattle.entry_balance.proofs.Named.{left_true, right_true}
use Rattle.balancing.specs.Parts.{postings_of_group}
use Rattle.balancing.specs.Assigned.{shortened, given, given_at, given_from, given_postings, assigned_by, given_by, given_at_by, given_from_by, given_posting_by, given_postings_by, is_ready}
use Rattle.balancing.specs.Groups.{Group, group_cmp, groups_by, groups_from, groups_of, day_of}
use Rattle.assertions.specs.Kept.{Keeping, is_asked, is_asked_by, are_asked}
use Rattle.balancing.specs.Walk.{IsOwn, AreOwn}
use Rattle.balancing.proofs.Whole.{has_group, has-left, has-right, has-first, group_ties}

-- ---- one transaction

module _ (enter : Decimal → Decimal) where
  given_not : (seen : List Posting) (p : Posting) → is_assignment (given_posting_by enter seen p p.amount p.wanted) ≡ false
  given_not seen p = by p.amount p.wanted refl refl
    where
      and_no : (b : Bool) → (b && false) ≡ false
      and_no true = refl
      and_no false = refl

      by : (a : Option Amount) (w : Option Assertion) → p.amount ≡ a → p.wanted ≡ w → is_assignment (given_posting_by enter seen p a w) ≡ false
      by (Some a) w is_a is_w = ap (λ (x : Option Amount). is_none x && is_some p.wanted) is_a
      by None None is_a is_w = ap (λ (x : Option Assertion). is_none p.amount && is_some x) is_w ∙ and_no (is_none p.amount)
      by None (Some w) is_a is_w = refl

  pub given-unassigned : (seen ps : List Posting) → has_assignment (given_postings_by enter seen ps) ≡ false
  given-unassigned seen [] = refl
  given-unassigned seen (p ∷ ps) =
      let q = given_posting_by enter seen p p.amount p.wanted in
      ap (λ (b : Bool). b || has_assignment (given_postings_by enter (seen ++ q ∷ []) ps)) (given_not seen p) ∙ given-unassigned (seen ++ q ∷ []) ps

  pub given_here_by : (seen : List Posting) (t : Txn) → is_assignable t.postings ≡ true → given_by enter seen t ≡ with_postings t (given_postings_by enter seen t.postings)
  given_here_by seen t h = ap (λ (b : Bool). cond b (with_postings t (given_postings_by enter seen t.postings)) t) h

  pub given_stays_by : (seen : List Posting) (t : Txn) → is_assignable t.postings ≡ false → given_by enter seen t ≡ t
  given_stays_by seen t h = ap (λ (b : Bool). cond b (with_postings t (given_postings_by enter seen t.postings)) t) h

  -- no assignment is left to be made
  pub given_ready : (seen : List Posting) (t : Txn) → is_assignable (given_by enter seen t).postings ≡ false
  given_ready seen t =
      elim (is_assignable t.postings) as (λ b. is_assignable t.postings ≡ b → is_assignable (given_by enter seen t).postings ≡ false) [
        | true ↦ λ h. ap (λ (x : Txn). is_assignable x.postings) (given_here_by seen t h) ∙ ap (λ (b : Bool). b && is_none (assignment_fault (given_postings_by enter seen t.postings))) (given-unassigned seen t.postings)
        | false ↦ λ h. ap (λ (x : Txn). is_assignable x.postings) (given_stays_by seen t h) ∙ h
      ] refl

  -- ---- by their numbers

  pub given-ready_at : (seen : List Posting) (n : ℕ) (ts : List Txn) → is_ready (slice_get (given_at_by enter seen n ts) n) ≡ true
  given-ready_at seen n [] = refl
  given-ready_at seen zero (t ∷ ts) = ap not (given_ready seen t)
  given-ready_at seen (suc n) (t ∷ ts) = given-ready_at seen n ts

not_true : (b : Bool) → not b ≡ true → b ≡ false
not_true true h = absurd (false≢true h)
not_true false h = refl

module _ (enter : Decimal → Decimal) where
  pub given_at-keeps : (seen : List Posting) (m n : ℕ) (ts : List Txn) → is_ready (slice_get ts n) ≡ true → slice_get (given_at_by enter seen m ts) n ≡ slice_get ts n
  given_at-keeps seen m n [] h = refl
  given_at-keeps seen zero zero (t ∷ ts) h = ap Some (given_stays_by enter seen t (not_true (is_assignable t.postings) h))
  given_at-keeps seen zero (suc n) (t ∷ ts) h = refl
  given_at-keeps seen (suc m) zero (t ∷ ts) h = refl
  given_at-keeps seen (suc m) (suc n) (t ∷ ts) h = given_at-keeps seen m n ts h

  -- once a transaction's assignments are made it stays
  pub given-keeps_by : (ts : List Txn) (seen : List Posting) (gs : List Group) (n : ℕ) → is_ready (slice_get ts n) ≡ true → slice_get (given_from_by enter ts seen gs) n ≡ slice_get ts n
  given-keeps_by ts seen [] n h = refl
  given-keeps_by ts seen (g ∷ gs) n h =
      let next = given_at_by enter seen g.1 ts in
      let same = given_at-keeps seen g.1 n ts h in
      given-keeps_by next (seen ++ postings_of_group g.0 (slice_get next g.1)) gs n (ap is_ready same ∙ h) ∙ same

  -- all that have a group are ready in the end
  pub given-all : (ts : List Txn) (seen : List Posting) (gs : List Group) (g : Group) → has_group g gs ≡ true → is_ready (slice_get (given_from_by enter ts seen gs) g.1) ≡ true
  given-all ts seen [] g h = absurd (false≢true h)
  given-all ts seen (x ∷ gs) g h =
      let next = given_at_by enter seen x.1 ts in
      let later = seen ++ postings_of_group x.0 (slice_get next x.1) in
      elim (eq_by_cmp group_cmp g x) as (λ b. eq_by_cmp group_cmp g x ≡ b → (b || has_group g gs) ≡ true → is_ready (slice_get (given_from_by enter next later gs) g.1) ≡ true) [
        | true ↦ λ e _.
            let same : g ≡ x = group_ties g x (is_equal _ e) in
            subst (λ (y : Group). is_ready (slice_get (given_from_by enter next later gs) y.1) ≡ true) (sym same)
            (ap is_ready (given-keeps_by next later gs x.1 (given-ready_at enter seen x.1 ts)) ∙ given-ready_at enter seen x.1 ts)
        | false ↦ λ e rest. given-all next later gs g rest
      ] refl h

  -- ---- the groups stay

  given_day : (seen : List Posting) (p : Posting) (a : Option Amount) (w : Option Assertion) → (given_posting_by enter seen p a w).day ≡ p.day
  given_day seen p (Some a) w = refl
  given_day seen p None None = refl
  given_day seen p None (Some w) = refl

  given-days : (t : Txn) (n : ℕ) (seen ps : List Posting) → map {B = Group} (λ q. (day_of t q, n)) (given_postings_by enter seen ps) ≡ map {B = Group} (λ q. (day_of t q, n)) ps
  given-days t n seen [] = refl
  given-days t n seen (p ∷ ps) =
      let q = given_posting_by enter seen p p.amount p.wanted in
      let rest = given-days t n (seen ++ q ∷ []) ps in
      let first = given_day seen p p.amount p.wanted in
      λ i. ((unwrap_or (first i) t.day).0, n) ∷ rest i

  groups-given : (n : ℕ) (seen : List Posting) (t : Txn) (ps : List Posting) → groups_by n (with_postings t (given_postings_by enter seen t.postings)) (given_postings_by enter seen ps) ≡ groups_by n t ps
  groups-given n seen t [] = refl
  groups-given n seen t (p ∷ ps) = given-days t n seen (p ∷ ps)

  groups-of_given : (n : ℕ) (seen : List Posting) (t : Txn) → groups_by n (given_by enter seen t) (given_by enter seen t).postings ≡ groups_by n t t.postings
  groups-of_given n seen t =
      elim (is_assignable t.postings) as (λ b. is_assignable t.postings ≡ b → groups_by n (given_by enter seen t) (given_by enter seen t).postings ≡ groups_by n t t.postings) [
        | true ↦ λ h. ap (λ (x : Txn). groups_by n x x.postings) (given_here_by enter seen t h) ∙ groups-given n seen t t.postings
        | false ↦ λ h. ap (λ (x : Txn). groups_by n x x.postings) (given_stays_by enter seen t h)
      ] refl

  groups-given_at : (m : ℕ) (seen : List Posting) (n : ℕ) (ts : List Txn) → groups_from m (given_at_by enter seen n ts) ≡ groups_from m ts
  groups-given_at m seen n [] = refl
  groups-given_at m seen zero (t ∷ ts) = ap (λ (gs : List Group). gs ++ groups_from (m + 1) ts) (groups-of_given m seen t)
  groups-given_at m seen (suc n) (t ∷ ts) = ap (λ (gs : List Group). groups_by m t t.postings ++ gs) (groups-given_at (m + 1) seen n ts)

  groups-given_from : (ts : List Txn) (seen : List Posting) (gs : List Group) → groups_from 0 (given_from_by enter ts seen gs) ≡ groups_from 0 ts
  groups-given_from ts seen [] = refl
  groups-given_from ts seen (g ∷ gs) =
      let next = given_at_by enter seen g.1 ts in
      groups-given_from next (seen ++ postings_of_group g.0 (slice_get next g.1)) gs ∙ groups-given_at 0 seen g.1 ts

  pub groups-assigned : (ts : List Txn) → groups_of (assigned_by enter ts) ≡ groups_of ts
  groups-assigned ts = ap (each_once group_cmp) (groups-given_from ts [] (groups_of ts))

-- a transaction has a group
group_of : (m : ℕ) (t : Txn) (ps : List Posting) → (day : ℕ) × (has_group (day, m) (groups_by m t ps) ≡ true)
group_of m t [] = (t.day.0, has-first (t.day.0, m) [])
group_of m t (p ∷ ps) = (day_of t p, has-first (day_of t p, m) (map (λ q. (day_of t q, m)) ps))

group-there : (m : ℕ) (ts : List Txn) (n : ℕ) → n < length ts → (day : ℕ) × (has_group (day, m + n) (groups_from m ts) ≡ true)
group-there m [] n h = absurd (omega arith)
group-there m (t ∷ ts) zero h =
    let here = group_of m t t.postings in
    let number : m ≡ m + 0 = omega arith in
    (here.0, subst (λ k. has_group (here.0, k) (groups_by m t t.postings ++ groups_from (m + 1) ts) ≡ true) number (has-left (here.0, m) (groups_by m t t.postings) (groups_from (m + 1) ts) here.1))
group-there m (t ∷ ts) (suc n) h =
    let there = group-there (m + 1) ts n (omega arith) in
    let number : (m + 1) + n ≡ m + suc n = omega arith in
    (there.0, subst (λ k. has_group (there.0, k) (groups_by m t t.postings ++ groups_from (m + 1) ts) ≡ true) number (has-right (there.0, (m + 1) + n) (groups_by m t t.postings) (groups_from (m + 1) ts) there.1))

none-past : {X : Type 0} (xs : List X) (n : ℕ) → length xs ≤ n → slice_get xs n ≡ None
none-past [] n h = refl
none-past (x ∷ xs) zero h = absurd (omega arith)
none-past (x ∷ xs) (suc n) h = none-past xs n (omega arith)

module _ (enter : Decimal → Decimal) where
  length-given_at : (seen : List Posting) (n : ℕ) (ts : List Txn) → length (given_at_by enter seen n ts) ≡ length ts
  length-given_at seen n [] = refl
  length-given_at seen zero (t ∷ ts) = refl
  length-given_at seen (suc n) (t ∷ ts) = ap suc (length-given_at seen n ts)

  length-given_from : (ts : List Txn) (seen : List Posting) (gs : List Group) → length (given_from_by enter ts seen gs) ≡ length ts
  length-given_from ts seen [] = refl
  length-given_from ts seen (g ∷ gs) =
      let next = given_at_by enter seen g.1 ts in
      length-given_from next (seen ++ postings_of_group g.0 (slice_get next g.1)) gs ∙ length-given_at seen g.1 ts

  -- in the end no assignment is left to be made
  pub assigned-ready : (ts : List Txn) (n : ℕ) → is_ready (slice_get (assigned_by enter ts) n) ≡ true
  assigned-ready ts n = by (cases_lt n (length ts))
    where
      by : (n < length ts) ⊎ (length ts ≤ n) → is_ready (slice_get (assigned_by enter ts) n) ≡ true
      by (inl less) =
          let group = group-there 0 ts n less in
          let there : has_group (group.0, 0 + n) (groups_of ts) ≡ true = contains-each_once group_ties (groups_from 0 ts) (group.0, 0 + n) ∙ group.1 in
          let number : 0 + n ≡ n = omega arith in
          subst (λ k. is_ready (slice_get (assigned_by enter ts) k) ≡ true) number (given-all enter ts [] (groups_of ts) (group.0, 0 + n) there)
      by (inr more) = ap is_ready (none-past (assigned_by enter ts) n (omega (arith, more, length-given_from ts [] (groups_of ts))))

-- ---- the day of a transaction with assignments

undated : (ps : List Posting) → list_any is_dated ps ≡ false → AllByRecursion (λ p. p.day ≡ None) ps
undated [] h = tt
undated (p ∷ ps) h =
    let parts = or_parts (is_dated p) (list_any is_dated ps) h in
    (none_is p.day (or_parts (is_some p.day) (list_any is_date_tag p.tags) parts.0).0, undated ps parts.1)
  where
    none_is : {X : Type 0} (o : Option X) → is_some o ≡ false → o ≡ None
    none_is None e = refl
    none_is (Some x) e = absurd (false≢true (sym e))

assignable_undated : (ps : List Posting) → is_assignable ps ≡ true → list_any is_dated ps ≡ false
assignable_undated ps h = by (lacks_two ps) (list_any is_dated ps) (right_true (has_assignment ps) (is_none (assignment_fault ps)) h)
  where
    by : (two dated : Bool) → is_none (cond two (Some cause.TwoMissing) (cond dated (Some cause.NotAllowed) None)) ≡ true → dated ≡ false
    by true dated e = absurd (false≢true e)
    by false true e = absurd (false≢true e)
    by false false e = refl

pub assignable_days : (ps : List Posting) → is_assignable ps ≡ true → AllByRecursion (λ p. p.day ≡ None) ps
assignable_days ps h = undated ps (assignable_undated ps h)

pub assignable_one : (ps : List Posting) → is_assignable ps ≡ true → lacks_two ps ≡ false
assignable_one ps h = by (lacks_two ps) (list_any is_dated ps) (right_true (has_assignment ps) (is_none (assignment_fault ps)) h)
  where
    by : (two dated : Bool) → is_none (cond two (Some cause.TwoMissing) (cond dated (Some cause.NotAllowed) None)) ≡ true → two ≡ false
    by true dated e = absurd (false≢true e)
    by false dated e = refl

own-postings : (pre ws : List Txn) (t : Txn) (m : ℕ) → slice_get (pre ++ t ∷ ws) m ≡ Some t → (ps : List Posting) → (is_assignable t.postings ≡ true → AllByRecursion (λ p. p.day ≡ None) ps) → AllByRecursion (λ (g : Group). IsOwn g.0 (slice_get (pre ++ t ∷ ws) g.1)) (map {B = Group} (λ q. (day_of t q, m)) ps)
own-postings pre ws t m at [] days = tt
own-postings pre ws t m at (p ∷ ps) days =
    (subst (IsOwn (day_of t p)) (sym at) (λ h. sym (ap (λ d. (unwrap_or d t.day).0) (days h).0)), own-postings pre ws t m at ps (λ h. (days h).1))

own-txn : (pre ws : List Txn) (t : Txn) (m : ℕ) → slice_get (pre ++ t ∷ ws) m ≡ Some t → (ps : List Posting) → (is_assignable t.postings ≡ true → AllByRecursion (λ p. p.day ≡ None) ps) → AllByRecursion (λ (g : Group). IsOwn g.0 (slice_get (pre ++ t ∷ ws) g.1)) (groups_by m t ps)
own-txn pre ws t m at [] days = (subst (IsOwn t.day.0) (sym at) (λ h. refl), tt)
own-txn pre ws t m at (p ∷ ps) days = own-postings pre ws t m at (p ∷ ps) days

all-append : {X : Type 0} (P : X → Type 0) (xs ys : List X) → AllByRecursion P xs → AllByRecursion P ys → AllByRecursion P (xs ++ ys)
all-append P [] ys h k = k
all-append P (x ∷ xs) ys h k = (h.0, all-append P xs ys h.1 k)

get-middle : {X : Type 0} (xs : List X) (y : X) (ys : List X) → slice_get (xs ++ y ∷ ys) (length xs) ≡ Some y
get-middle [] y ys = refl
get-middle (x ∷ xs) y ys = get-middle xs y ys

own-all : (pre ws : List Txn) → AllByRecursion (λ (g : Group). IsOwn g.0 (slice_get (pre ++ ws) g.1)) (groups_from (length pre) ws)
own-all pre [] = tt
own-all pre (t ∷ ws) =
    all-append _ (groups_by (length pre) t t.postings) (groups_from (length pre + 1) ws)
    (own-txn pre ws t (length pre) (get-middle pre t ws) t.postings (assignable_days t.postings))
    (let longer : length (pre ++ t ∷ []) ≡ length pre + 1 = length-more pre t in
    let joined : (pre ++ t ∷ []) ++ ws ≡ pre ++ t ∷ ws = append_assoc pre (t ∷ []) ws in
    subst (λ (x : ℕ × List Txn). AllByRecursion (λ (g : Group). IsOwn g.0 (slice_get x.1 g.1)) (groups_from x.0 ws)) (λ i. (longer i, joined i)) (own-all (pre ++ t ∷ []) ws))
  where
    length-more : {X : Type 0} (xs : List X) (x : X) → length (xs ++ x ∷ []) ≡ length xs + 1
    length-more [] x = refl
    length-more (y ∷ xs) x = omega (arith, length-more xs x)

all-insert : (P : Group → Type 0) (gs : List Group) (g : Group) → AllByRecursion P gs → P g → AllByRecursion P (insert_key group_cmp gs g)
all-insert P [] g h here = (here, tt)
all-insert P (x ∷ gs) g h here =
    elim (group_cmp g x) as (λ o. AllByRecursion P (match_ordering o (g ∷ x ∷ gs) (x ∷ gs) (x ∷ insert_key group_cmp gs g))) [
      | Less ↦ (here, h)
      | Equal ↦ h
      | Greater ↦ (h.0, all-insert P gs g h.1 here)
    ]

all-once : (P : Group → Type 0) (gs : List Group) → AllByRecursion P gs → AllByRecursion P (each_once group_cmp gs)
all-once P [] h = tt
all-once P (g ∷ gs) h = all-insert P (each_once group_cmp gs) g (all-once P gs h.1) h.0

pub groups-own : (ts : List Txn) → AreOwn ts (groups_of ts)
groups-own ts = all-once _ (groups_from 0 ts) (own-all [] ts)

module _ (enter : Decimal → Decimal) where
  own-step : (seen : List Posting) (m n day : ℕ) (ts : List Txn) → IsOwn day (slice_get ts n) → IsOwn day (slice_get (given_at_by enter seen m ts) n)
  own-step seen m n day [] h = h
  own-step seen zero zero day (t ∷ ts) h = λ e. absurd (false≢true (sym (given_ready enter seen t) ∙ e))
  own-step seen zero (suc n) day (t ∷ ts) h = h
  own-step seen (suc m) zero day (t ∷ ts) h = h
  own-step seen (suc m) (suc n) day (t ∷ ts) h = own-step seen m n day ts h

  pub own-next : (seen : List Posting) (m : ℕ) (ts : List Txn) (gs : List Group) → AreOwn ts gs → AreOwn (given_at_by enter seen m ts) gs
  own-next seen m ts [] h = tt
  own-next seen m ts (g ∷ gs) h = (own-step seen m g.1 g.0 ts h.0, own-next seen m ts gs h.1)

-- ---- what is asked for

module _ (enter : Decimal → Decimal) (own below : Keeping) where
  abbrev asks : List Posting → Bool
  asks ps = list_all (is_asked own below) ps

  given-asked : (seen ps : List Posting) → asks (given_postings_by enter seen ps) ≡ asks ps
  given-asked seen [] = refl
  given-asked seen (p ∷ ps) =
      let q = given_posting_by enter seen p p.amount p.wanted in
      (λ i. same p.amount p.wanted i && given-asked (seen ++ q ∷ []) ps i)
    where
      same : (a : Option Amount) (w : Option Assertion) → is_asked own below (given_posting_by enter seen p a w) ≡ is_asked own below p
      same (Some a) w = refl
      same None None = refl
      same None (Some w) = refl

  pub txn-asked : (seen : List Posting) (t : Txn) → asks (given_by enter seen t).postings ≡ asks t.postings
  txn-asked seen t =
      elim (is_assignable t.postings) as (λ b. is_assignable t.postings ≡ b → asks (given_by enter seen t).postings ≡ asks t.postings) [
        | true ↦ λ h. ap (λ (x : Txn). asks x.postings) (given_here_by enter seen t h) ∙ given-asked seen t.postings
        | false ↦ λ h. ap (λ (x : Txn). asks x.postings) (given_stays_by enter seen t h)
      ] refl

  given_at-asked : (seen : List Posting) (n : ℕ) (ts : List Txn) → are_asked own below (given_at_by enter seen n ts) ≡ are_asked own below ts
  given_at-asked seen n [] = refl
  given_at-asked seen zero (t ∷ ts) = ap (λ (b : Bool). b && are_asked own below ts) (txn-asked seen t)
  given_at-asked seen (suc n) (t ∷ ts) = ap (λ (b : Bool). asks t.postings && b) (given_at-asked seen n ts)

  asks-append : (ps qs : List Posting) → asks (ps ++ qs) ≡ (asks ps && asks qs)
  asks-append [] qs = refl
  asks-append (p ∷ ps) qs = ap (λ (b : Bool). is_asked own below p && b) (asks-append ps qs) ∙ and_assoc (is_asked own below p) (asks ps) (asks qs)
    where
      and_assoc : (a b c : Bool) → (a && (b && c)) ≡ ((a && b) && c)
      and_assoc true b c = refl
      and_assoc false b c = refl

  asks-found : (p : Posting) (vs : List Value) → asks (map (found_posting p) vs) ≡ true
  asks-found p [] = refl
  asks-found p (v ∷ vs) = asks-found p vs

  solved-asked : (all ps : List Posting) → has_assignment ps ≡ false → asks (flat_map (λ p. solved_posting all p p.amount) ps) ≡ asks ps
  solved-asked all [] h = refl
  solved-asked all (p ∷ ps) h =
      let parts = or_parts (is_assignment p) (has_assignment ps) h in
      asks-append (solved_posting all p p.amount) (flat_map (λ p. solved_posting all p p.amount) ps)
      ∙ (λ i. one p.amount p.wanted refl refl parts.0 i && solved-asked all ps parts.1 i)
    where
      costed : (cost : Option (List ℕ × Value)) → is_asked own below (costed_posting cost p) ≡ is_asked own below p
      costed None = refl
      costed (Some c) = elim (is_real_of c.0 p && is_none p.cost) as (λ b. is_asked own below (cond b (record p { cost = Some (Total (plain_amount c.1)); costed = true }) p) ≡ is_asked own below p) [ true ↦ refl | false ↦ refl ]

      and_true : (b : Bool) → (b && true) ≡ b
      and_true true = refl
      and_true false = refl

      one : (a : Option Amount) (w : Option Assertion) → p.amount ≡ a → p.wanted ≡ w → is_assignment p ≡ false → asks (solved_posting all p a) ≡ is_asked own below p
      one (Some a) w is_a is_w none = and_true (is_asked own below (costed_posting (recorded_cost all) p)) ∙ costed (recorded_cost all)
      one None None is_a is_w none = asks-found p (found_values p.side all) ∙ sym (ap (is_asked_by own below p.account) is_w)
      one None (Some w) is_a is_w none = absurd (false≢true (sym none ∙ (λ i. is_none (is_a i) && is_some (is_w i))))

  pub settled-asked : (w t : Txn) (c : Option Cause) → IsSettled w t c → asks t.postings ≡ asks w.postings
  settled-asked w t c h = by h.either
    where
      by : (t ≡ w) ⊎ (t ≡ settled w) → asks t.postings ≡ asks w.postings
      by (inl same) = ap (λ (x : Txn). asks x.postings) same
      by (inr same) = elim (has_assignment w.postings) as (λ b. has_assignment w.postings ≡ b → asks t.postings ≡ asks w.postings) [
        | true ↦ λ e. ap (λ (x : Txn). asks x.postings) (h.kept e)
        | false ↦ λ e. ap (λ (x : Txn). asks x.postings) same ∙ solved-asked w.postings w.postings e
      ] refl

  all-asked : (ws ts : List Txn) (cs : List (Option Cause)) → AreSettled ws ts cs → are_asked own below ts ≡ are_asked own below ws
  all-asked [] [] [] h = refl
  all-asked [] [] (c ∷ cs) h = absurd h
  all-asked [] (t ∷ ts) cs h = absurd h
  all-asked (w ∷ ws) [] cs h = absurd h
  all-asked (w ∷ ws) (t ∷ ts) [] h = absurd h
  all-asked (w ∷ ws) (t ∷ ts) (c ∷ cs) h = λ i. settled-asked w t c h.0 i && all-asked ws ts cs h.1 i

  -- what is asked for stays when the assignments of a transaction are made
  pub asked-next : (seen : List Posting) (n : ℕ) (ws ts ts' : List Txn) (cs cs' : List (Option Cause)) → AreSettled ws ts cs → AreSettled (given_at_by enter seen n ws) ts' cs' → are_asked own below ts ≡ true → are_asked own below ts' ≡ true
  asked-next seen n ws ts ts' cs cs' h h' asked = all-asked (given_at_by enter seen n ws) ts' cs' h' ∙ given_at-asked seen n ws ∙ sym (all-asked ws ts cs h) ∙ asked

-- ---- one transaction in its place

module _ (enter : Decimal → Decimal) where
  pub settled-set : (seen : List Posting) (n : ℕ) (ws ts : List Txn) (cs : List (Option Cause)) (t : Txn) (c : Option Cause) → AreSettled ws ts cs → ((w : Txn) → slice_get ws n ≡ Some w → IsSettled (given_by enter seen w) t c) → AreSettled (given_at_by enter seen n ws) (set ts n t) (set cs n c)
  settled-set seen n [] [] [] t c h new = h
  settled-set seen n [] [] (y ∷ cs) t c h new = absurd h
  settled-set seen n [] (x ∷ ts) cs t c h new = absurd h
  settled-set seen n (w ∷ ws) [] cs t c h new = absurd h
  settled-set seen n (w ∷ ws) (x ∷ ts) [] t c h new = absurd h
  settled-set seen zero (w ∷ ws) (x ∷ ts) (y ∷ cs) t c h new = (new w refl, h.1)
  settled-set seen (suc n) (w ∷ ws) (x ∷ ts) (y ∷ cs) t c h new = (h.0, settled-set seen n ws ts cs t c h.1 new)

pub set-again : {X : Type 0} (xs : List X) (n : ℕ) (x y : X) → set (set xs n x) n y ≡ set xs n y
set-again [] n x y = refl
set-again (z ∷ xs) zero x y = refl
set-again (z ∷ xs) (suc n) x y = ap (λ t. z ∷ t) (set-again xs n x y)

module _ (enter : Decimal → Decimal) where
  -- nothing is made where no assignment is left
  pub given_at-same_by : (seen : List Posting) (n : ℕ) (ts : List Txn) → is_ready (slice_get ts n) ≡ true → given_at_by enter seen n ts ≡ ts
  given_at-same_by seen n [] h = refl
  given_at-same_by seen zero (t ∷ ts) h = ap (λ (x : Txn). x ∷ ts) (given_stays_by enter seen t (not_true (is_assignable t.postings) h))
  given_at-same_by seen (suc n) (t ∷ ts) h = ap (λ (xs : List Txn). t ∷ xs) (given_at-same_by seen n ts h)

  pub given_at-there : (seen : List Posting) (n : ℕ) (ts : List Txn) (t : Txn) → slice_get ts n ≡ Some t → slice_get (given_at_by enter seen n ts) n ≡ Some (given_by enter seen t)
  given_at-there seen n [] t h = absurd (let never : ⊥ = cc in never)
  given_at-there seen zero (x ∷ ts) t h = let same : x ≡ t = cc in ap (λ (y : Txn). Some (given_by enter seen y)) same
  given_at-there seen (suc n) (x ∷ ts) t h = given_at-there seen n ts t h

-- a transaction that was settled has assignments to be made where the written one has
pub assignable-written : (w t : Txn) (c : Option Cause) → IsSettled w t c → is_assignable t.postings ≡ false → is_assignable w.postings ≡ false
assignable-written w t c h ready =
    elim (is_assignable w.postings) as (λ b. is_assignable w.postings ≡ b → b ≡ false) [
      | true ↦ λ e. absurd (false≢true (sym ready ∙ ap (λ (x : Txn). is_assignable x.postings) (h.kept (left_true (has_assignment w.postings) (is_none (assignment_fault w.postings)) e)) ∙ e))
      | false ↦ λ e. refl
    ] refl

any-append : (ps qs : List Posting) → has_assignment ps ≡ false → has_assignment qs ≡ false → has_assignment (ps ++ qs) ≡ false
any-append [] qs h k = k
any-append (p ∷ ps) qs h k =
    let parts = or_parts (is_assignment p) (has_assignment ps) h in
    ap (λ (b : Bool). b || has_assignment (ps ++ qs)) parts.0 ∙ any-append ps qs parts.1 k

-- what balancing finds leaves no assignment
solved-unassigned : (all ps : List Posting) → has_assignment (flat_map (λ p. solved_posting all p p.amount) ps) ≡ false
solved-unassigned all [] = refl
solved-unassigned all (p ∷ ps) = any-append (solved_posting all p p.amount) (flat_map (λ p. solved_posting all p p.amount) ps) (one p.amount refl) (solved-unassigned all ps)
  where
    found : (vs : List Value) → has_assignment (map (found_posting p) vs) ≡ false
    found [] = refl
    found (v ∷ vs) = found vs

    costed : (cost : Option (List ℕ × Value)) → is_some p.amount ≡ true → is_assignment (costed_posting cost p) ≡ false
    costed None some = not_missing p some
      where
        not_missing : (q : Posting) → is_some q.amount ≡ true → is_assignment q ≡ false
        not_missing q some = by q.amount some
          where
            by : (a : Option Amount) → is_some a ≡ true → (is_none a && is_some q.wanted) ≡ false
            by None h = absurd (false≢true h)
            by (Some a) h = refl
    costed (Some c) some = elim (is_real_of c.0 p && is_none p.cost) as (λ b. is_assignment (cond b (record p { cost = Some (Total (plain_amount c.1)); costed = true }) p) ≡ false) [ true ↦ by p.amount some | false ↦ by p.amount some ]
      where
        by : (a : Option Amount) → is_some a ≡ true → (is_none a && is_some p.wanted) ≡ false
        by None h = absurd (false≢true h)
        by (Some a) h = refl

    one : (a : Option Amount) → p.amount ≡ a → has_assignment (solved_posting all p a) ≡ false
    one None e = found (found_values p.side all)
    one (Some a) e = ap (λ (b : Bool). b || false) (costed (recorded_cost all) (ap is_some e))

-- a transaction whose assignments are to be made is as it is written
pub assignable-is : (w t : Txn) (c : Option Cause) → IsSettled w t c → is_assignable t.postings ≡ true → t ≡ w
assignable-is w t c h assignable = by h.either
  where
    by : (t ≡ w) ⊎ (t ≡ settled w) → t ≡ w
    by (inl same) = same
    by (inr same) = absurd (false≢true (sym (ap (λ (x : Txn). has_assignment x.postings) same ∙ solved-unassigned w.postings w.postings) ∙ left_true (has_assignment t.postings) (is_none (assignment_fault t.postings)) assignable))

pub settled-back : (ws ts : List Txn) (cs : List (Option Cause)) → AreSettled ws ts cs → (n : ℕ) (t : Txn) → slice_get ts n ≡ Some t → (w : Txn) × (slice_get ws n ≡ Some w) × ((c : Option Cause) × IsSettled w t c)
settled-back [] [] cs h n t at = absurd (let never : ⊥ = cc in never)
settled-back [] (x ∷ ts) cs h n t at = absurd h
settled-back (w ∷ ws) [] cs h n t at = absurd h
settled-back (w ∷ ws) (x ∷ ts) [] h n t at = absurd h
settled-back (w ∷ ws) (x ∷ ts) (c ∷ cs) h zero t at = let same : x ≡ t = cc in (w, refl, (c, subst (λ (y : Txn). IsSettled w y c) same h.0))
settled-back (w ∷ ws) (x ∷ ts) (c ∷ cs) h (suc n) t at = settled-back ws ts cs h.1 n t at

-- ---- the same as in books

pub given_here : (seen : List Posting) (t : Txn) → is_assignable t.postings ≡ true → given seen t ≡ with_postings t (given_postings seen t.postings)
given_here seen t h = given_here_by shortened seen t h

pub given_stays : (seen : List Posting) (t : Txn) → is_assignable t.postings ≡ false → given seen t ≡ t
given_stays seen t h = given_stays_by shortened seen t h

pub given-keeps : (ts : List Txn) (seen : List Posting) (gs : List Group) (n : ℕ) → is_ready (slice_get ts n) ≡ true → slice_get (given_from ts seen gs) n ≡ slice_get ts n
given-keeps ts seen gs n h = given-keeps_by shortened ts seen gs n h

pub given_at-same : (seen : List Posting) (n : ℕ) (ts : List Txn) → is_ready (slice_get ts n) ≡ true → given_at seen n ts ≡ ts
given_at-same seen n ts h = given_at-same_by shortened seen n ts h
