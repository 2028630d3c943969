-- The transactions of a text, by what is given to each.
use Rattle.std.proofs.Common.{◌≡◌, ℕ, zero, suc, ◌+◌, Bool, true, false, cond, ◌||◌, not, List, [], ◌∷◌, ◌++◌, map, length, Option, Some, None, refl, sym, ap, ◌∙◌, subst, arith}
use Rattle.std.specs.Prelude.{unwrap_or}
use Rattle.std.specs.Ordering.{eq_by_cmp, is_eq}
use Rattle.std.specs.declared.cmp.Ordering.{Ordering}
use Rattle.std.specs.List.{flat_map, list_all, slice_get, AllByRecursion}
use Rattle.std.specs.Option.{option_map}
use Rattle.std.proofs.lemmas.Bool.{false≢true}
use Rattle.hl_num.specs.Decimal.{Decimal}
use Rattle.hl_time.specs.declared.day.Day.{Day}
use Rattle.book.specs.declared.amount.Amount.{Amount}
use Rattle.book.specs.declared.amount.Assertion.{Assertion}
use Rattle.book.specs.declared.transaction.Posting.{Posting}
use Rattle.book.specs.declared.transaction.Txn.{Txn}
use Rattle.entry_balance.specs.Entry.{with_postings, is_assignable}
use Rattle.entry_balance.proofs.Named.{left_true, right_true}
use Rattle.balancing.specs.Groups.{Group, group_cmp, groups_by, groups_from, groups_of, day_of}
use Rattle.balancing.specs.Parts.{postings_of_group}
use Rattle.balancing.specs.Assigned.{given_posting_by, given_postings_by, given_by, given_at_by, given_from_by}
use Rattle.balancing.specs.Solves.{is_unmarked, are_unmarked, is_allowed, IsMadeTxn, AreMadeTxns}
use Rattle.balancing.proofs.SolvingGroups.{has_group, has-each_once, same_group, equal_group}
use Rattle.balancing.proofs.SolvingSeen.{EachAfter, each_append, each_first, each_second}
use Rattle.balancing.proofs.SolvingMade.{AssignedAfter, AreUnmarked}
use Rattle.balancing.proofs.SolvingTxn.{given_made, given_is_assigned, assigned_is_given}
use Rattle.balancing.proofs.SolvingFixed.{OwnDay, Fixed}

-- ---- what is written has no mark

unmarked_postings : (ps : List Posting) → list_all is_unmarked ps ≡ true → AreUnmarked ps
unmarked_postings [] h = tt
unmarked_postings (p ∷ ps) h = (
  is_not p.filled (left_true (not p.filled) (not p.costed) (left_true (is_unmarked p) (list_all is_unmarked ps) h)),
  unmarked_postings ps (right_true (is_unmarked p) (list_all is_unmarked ps) h),
)
  where
    is_not : (b : Bool) → not b ≡ true → b ≡ false
    is_not true h = absurd (false≢true h)
    is_not false h = refl

pub unmarked_at : (written : List Txn) → are_unmarked written ≡ true → (n : ℕ) (t : Txn) → slice_get written n ≡ Some t → AreUnmarked t.postings
unmarked_at [] h n t e = absurd (let never : ⊥ = cc in never)
unmarked_at (x ∷ written) h zero t e =
    let same : x ≡ t = cc in
    subst (λ (t : Txn). AreUnmarked t.postings) same (unmarked_postings x.postings (left_true (list_all is_unmarked x.postings) (are_unmarked written) h))
unmarked_at (x ∷ written) h (suc n) t e = unmarked_at written (right_true (list_all is_unmarked x.postings) (are_unmarked written) h) n t e

pub allowed_at : (written : List Txn) → list_all is_allowed written ≡ true → (n : ℕ) (t : Txn) → slice_get written n ≡ Some t → is_allowed t ≡ true
allowed_at [] h n t e = absurd (let never : ⊥ = cc in never)
allowed_at (x ∷ written) h zero t e =
    let same : x ≡ t = cc in
    subst (λ (t : Txn). is_allowed t ≡ true) same (left_true (is_allowed x) (list_all is_allowed written) h)
allowed_at (x ∷ written) h (suc n) t e = allowed_at written (right_true (is_allowed x) (list_all is_allowed written) h) n t e

-- ---- group after group

-- the postings of some groups with what balancing finds
abbrev pub found_on : List Txn → List Group → List Posting
found_on made gs = flat_map (λ g. postings_of_group g.0 (slice_get made g.1)) gs

module _ (enter : Decimal → Decimal) (written : List Txn) (unmarked : are_unmarked written ≡ true) where
  fixed_one : (g : Group) (seen : List Posting) (o : Option Txn) → slice_get written g.1 ≡ o → OwnDay written g → EachAfter (AssignedAfter enter) seen (postings_of_group g.0 (option_map (given_by enter seen) o))
  fixed_one g seen None e own = tt
  fixed_one g seen (Some t) e own = given_is_assigned enter g.0 seen t (unmarked_at written unmarked g.1 t e) (own t e)

  -- where each transaction is given by what stands before it, each assignment is assigned
  pub fixed_is_assigned : (made : List Txn) (seen : List Posting) (gs : List Group) → AllByRecursion (OwnDay written) gs → Fixed enter written made seen gs → EachAfter (AssignedAfter enter) seen (found_on made gs)
  fixed_is_assigned made seen [] own fixed = tt
  fixed_is_assigned made seen (g ∷ gs) own fixed =
      each_append (AssignedAfter enter) seen (postings_of_group g.0 (slice_get made g.1)) (found_on made gs)
      (subst (λ (o : Option Txn). EachAfter (AssignedAfter enter) seen (postings_of_group g.0 o)) (sym fixed.0) (fixed_one g seen (slice_get written g.1) refl own.0))
      (fixed_is_assigned made (seen ++ postings_of_group g.0 (slice_get made g.1)) gs own.1 fixed.1)

  abbrev MadeIf : Option Txn → Option Txn → Type 0
  MadeIf None None = Unit {0}
  MadeIf None (Some u) = ⊥
  MadeIf (Some t) None = ⊥
  MadeIf (Some t) (Some u) = IsMadeTxn t u

  made_at : (ws ms : List Txn) → AreMadeTxns ws ms → (n : ℕ) → MadeIf (slice_get ws n) (slice_get ms n)
  made_at [] [] h n = tt
  made_at [] (m ∷ ms) h n = absurd h
  made_at (w ∷ ws) [] h n = absurd h
  made_at (w ∷ ws) (m ∷ ms) h zero = h.0
  made_at (w ∷ ws) (m ∷ ms) h (suc n) = made_at ws ms h.1 n

  assigned_one : list_all is_allowed written ≡ true → (g : Group) (seen : List Posting) (o m : Option Txn) → slice_get written g.1 ≡ o → MadeIf o m → OwnDay written g → EachAfter (AssignedAfter enter) seen (postings_of_group g.0 m) → m ≡ option_map (given_by enter seen) o
  assigned_one allowed g seen None None e made own h = refl
  assigned_one allowed g seen None (Some u) e made own h = absurd made
  assigned_one allowed g seen (Some t) None e made own h = absurd made
  assigned_one allowed g seen (Some t) (Some u) e made own h =
      ap Some (assigned_is_given enter g.0 seen t (unmarked_at written unmarked g.1 t e) (own t e) u made (allowed_at written allowed g.1 t e) h)

  -- where each assignment is assigned, each transaction is given by what stands before it
  pub assigned_is_fixed : list_all is_allowed written ≡ true → (made : List Txn) → AreMadeTxns written made → (seen : List Posting) (gs : List Group) → AllByRecursion (OwnDay written) gs → EachAfter (AssignedAfter enter) seen (found_on made gs) → Fixed enter written made seen gs
  assigned_is_fixed allowed made are seen [] own h = tt
  assigned_is_fixed allowed made are seen (g ∷ gs) own h =
      let group = postings_of_group g.0 (slice_get made g.1) in (
        assigned_one allowed g seen (slice_get written g.1) (slice_get made g.1) refl (made_at written made are g.1) own.0 (each_first (AssignedAfter enter) seen group (found_on made gs) h),
        assigned_is_fixed allowed made are (seen ++ group) gs own.1 (each_second (AssignedAfter enter) seen group (found_on made gs) h),
      )

module _ (enter : Decimal → Decimal) where
  -- two ways to give to each by what stands before it are one
  pub fixed_alike : (written a b : List Txn) (seen : List Posting) (gs : List Group) → Fixed enter written a seen gs → Fixed enter written b seen gs → AllByRecursion (λ g. slice_get a g.1 ≡ slice_get b g.1) gs
  fixed_alike written a b seen [] h k = tt
  fixed_alike written a b seen (g ∷ gs) h k =
      let same : slice_get a g.1 ≡ slice_get b g.1 = h.0 ∙ sym k.0 in (
        same,
        fixed_alike written a b (seen ++ postings_of_group g.0 (slice_get a g.1)) gs h.1
            (subst (λ (o : Option Txn). Fixed enter written b (seen ++ postings_of_group g.0 o) gs) (sym same) k.1),
      )

-- ---- each transaction has a group

pub has-left : (g : Group) (gs hs : List Group) → has_group g gs ≡ true → has_group g (gs ++ hs) ≡ true
has-left g [] hs h = absurd (false≢true h)
has-left g (x ∷ gs) hs h =
    elim (eq_by_cmp group_cmp g x) as (λ b. (b || has_group g gs) ≡ true → (b || has_group g (gs ++ hs)) ≡ true) [ true ↦ λ e. refl | false ↦ λ e. has-left g gs hs e ] h

pub has-right : (g : Group) (gs hs : List Group) → has_group g hs ≡ true → has_group g (gs ++ hs) ≡ true
has-right g [] hs h = h
has-right g (x ∷ gs) hs h =
    elim (eq_by_cmp group_cmp g x) as (λ b. (b || has_group g (gs ++ hs)) ≡ true) [ true ↦ refl | false ↦ has-right g gs hs h ]

pub has-first : (g : Group) (gs : List Group) → has_group g (g ∷ gs) ≡ true
has-first g gs = ap (λ (o : Ordering). is_eq o || has_group g gs) (same_group g)

some_group : (n : ℕ) (t : Txn) (ps : List Posting) → (day : ℕ) × (has_group (day, n) (groups_by n t ps) ≡ true)
some_group n t [] = (t.day.0, has-first (t.day.0, n) [])
some_group n t (p ∷ ps) = (day_of t p, has-first (day_of t p, n) (map (λ q. (day_of t q, n)) ps))

group_from : (m : ℕ) (ws : List Txn) (k : ℕ) (w : Txn) → slice_get ws k ≡ Some w → (day : ℕ) × (has_group (day, m + k) (groups_from m ws) ≡ true)
group_from m [] k w h = absurd (let never : ⊥ = cc in never)
group_from m (x ∷ ws) zero w h =
    let here = some_group m x x.postings in
    let number : m ≡ m + 0 = omega arith in
    (here.0, subst (λ n. has_group (here.0, n) (groups_by m x x.postings ++ groups_from (m + 1) ws) ≡ true) number (has-left (here.0, m) (groups_by m x x.postings) (groups_from (m + 1) ws) here.1))
group_from m (x ∷ ws) (suc k) w h =
    let there = group_from (m + 1) ws k w h in
    let number : (m + 1) + k ≡ m + suc k = omega arith in
    (there.0, subst (λ n. has_group (there.0, n) (groups_by m x x.postings ++ groups_from (m + 1) ws) ≡ true) number (has-right (there.0, (m + 1) + k) (groups_by m x x.postings) (groups_from (m + 1) ws) there.1))

all_at : (P : Group → Type 0) (gs : List Group) → AllByRecursion P gs → (g : Group) → has_group g gs ≡ true → P g
all_at P [] all g h = absurd (false≢true h)
all_at P (x ∷ gs) all g h =
    elim (eq_by_cmp group_cmp g x) as (λ b. eq_by_cmp group_cmp g x ≡ b → (b || has_group g gs) ≡ true → P g) [
      | true ↦ λ e _. subst P (sym (equal_group g x e)) all.0
      | false ↦ λ e rest. all_at P gs all.1 g rest
    ] refl h

-- what is true of each group's transaction is true of each transaction
pub each_number : (P : ℕ → Type 0) (written : List Txn) → AllByRecursion (λ g. P g.1) (groups_of written) → (n : ℕ) (t : Txn) → slice_get written n ≡ Some t → P n
each_number P written all n t e =
    let group = group_from 0 written n t e in
    subst P (from_none n) (all_at (λ g. P g.1) (groups_of written) all (group.0, 0 + n) (has-each_once (groups_from 0 written) (group.0, 0 + n) group.1))
  where
    from_none : (n : ℕ) → 0 + n ≡ n
    from_none n = omega arith

-- made transactions are equal where they are equal one by one
pub made_equal : (ws a b : List Txn) → AreMadeTxns ws a → AreMadeTxns ws b → ((n : ℕ) (t : Txn) → slice_get ws n ≡ Some t → slice_get a n ≡ slice_get b n) → a ≡ b
made_equal [] [] [] h k e = refl
made_equal [] [] (y ∷ b) h k e = absurd k
made_equal [] (x ∷ a) b h k e = absurd h
made_equal (w ∷ ws) [] b h k e = absurd h
made_equal (w ∷ ws) (x ∷ a) [] h k e = absurd k
made_equal (w ∷ ws) (x ∷ a) (y ∷ b) h k e =
    let first : x ≡ y = some_same (e 0 w refl) in
    let rest = made_equal ws a b h.1 k.1 (λ n t is. e (suc n) t is) in
    λ i. first i ∷ rest i
  where
    some_same : Some x ≡ Some y → x ≡ y
    some_same e = cc

-- ---- each transaction is given

module _ (enter : Decimal → Decimal) where
  abbrev pub AreGiven : List Txn → List Txn → Type 0
  AreGiven [] [] = Unit {0}
  AreGiven (w ∷ ws) (m ∷ ms) = ((seen : List Posting) × (m ≡ given_by enter seen w)) × AreGiven ws ms
  AreGiven _ _ = ⊥

  given_length : (seen : List Posting) (n : ℕ) (ts : List Txn) → length (given_at_by enter seen n ts) ≡ length ts
  given_length seen n [] = refl
  given_length seen zero (t ∷ ts) = refl
  given_length seen (suc n) (t ∷ ts) = ap suc (given_length seen n ts)

  pub from_length : (ts : List Txn) (seen : List Posting) (gs : List Group) → length (given_from_by enter ts seen gs) ≡ length ts
  from_length ts seen [] = refl
  from_length ts seen (g ∷ gs) =
      let next = given_at_by enter seen g.1 ts in
      from_length next (seen ++ postings_of_group g.0 (slice_get next g.1)) gs ∙ given_length seen g.1 ts

  -- what is given at some number
  abbrev pub GivenAt : List Txn → List Txn → ℕ → Type 0
  GivenAt written made n = (seen : List Posting) × (slice_get made n ≡ option_map (given_by enter seen) (slice_get written n))

  pub fixed_given : (written made : List Txn) (seen : List Posting) (gs : List Group) → Fixed enter written made seen gs → AllByRecursion (λ g. GivenAt written made g.1) gs
  fixed_given written made seen [] h = tt
  fixed_given written made seen (g ∷ gs) h = ((seen, h.0), fixed_given written made (seen ++ postings_of_group g.0 (slice_get made g.1)) gs h.1)

  pub are_given : (ws ms : List Txn) → length ms ≡ length ws → ((n : ℕ) (t : Txn) → slice_get ws n ≡ Some t → GivenAt ws ms n) → AreGiven ws ms
  are_given [] [] l h = tt
  are_given [] (m ∷ ms) l h = absurd (omega arith)
  are_given (w ∷ ws) [] l h = absurd (omega arith)
  are_given (w ∷ ws) (m ∷ ms) l h =
      let first = h 0 w refl in
      ((first.0, some_same m (given_by enter first.0 w) first.1), are_given ws ms (omega arith) (λ n t e. h (suc n) t e))
    where
      some_same : (x y : Txn) → Some x ≡ Some y → x ≡ y
      some_same x y e = cc

  given_day : (seen : List Posting) (a : Option Amount) (o : Option Assertion) (w : Posting) → (given_posting_by enter seen w a o).day ≡ w.day
  given_day seen (Some a) o w = refl
  given_day seen None None w = refl
  given_day seen None (Some x) w = refl

  given_days : (n : ℕ) (t u : Txn) → t.day ≡ u.day → (seen ws : List Posting) → map {B = Group} (λ q. (day_of u q, n)) (given_postings_by enter seen ws) ≡ map (λ q. (day_of t q, n)) ws
  given_days n t u e seen [] = refl
  given_days n t u e seen (w ∷ ws) =
      let q = given_posting_by enter seen w w.amount w.wanted in
      λ i. ((unwrap_or (given_day seen w.amount w.wanted w i) (sym e i)).0, n) ∷ given_days n t u e (seen ++ q ∷ []) ws i

  given_groups_by : (n : ℕ) (t u : Txn) → t.day ≡ u.day → (seen ws : List Posting) → groups_by n u (given_postings_by enter seen ws) ≡ groups_by n t ws
  given_groups_by n t u e seen [] = ap (λ (d : Day). (d.0, n) ∷ []) (sym e)
  given_groups_by n t u e seen (w ∷ ws) = given_days n t u e seen (w ∷ ws)

  given_groups_of : (n : ℕ) (seen : List Posting) (t : Txn) → groups_by n (given_by enter seen t) (given_by enter seen t).postings ≡ groups_by n t t.postings
  given_groups_of n seen t =
      elim (is_assignable t.postings) as (λ b. groups_by n (cond b (with_postings t (given_postings_by enter seen t.postings)) t) (cond b (with_postings t (given_postings_by enter seen t.postings)) t).postings ≡ groups_by n t t.postings) [
        | true ↦ given_groups_by n t (with_postings t (given_postings_by enter seen t.postings)) refl seen t.postings
        | false ↦ refl
      ]

  -- the groups are those of what is written
  pub given_groups : (n : ℕ) (ws ms : List Txn) → AreGiven ws ms → groups_from n ms ≡ groups_from n ws
  given_groups n [] [] h = refl
  given_groups n [] (m ∷ ms) h = absurd h
  given_groups n (w ∷ ws) [] h = absurd h
  given_groups n (w ∷ ws) (m ∷ ms) h =
      let first = ap (λ (x : Txn). groups_by n x x.postings) h.0.1 ∙ given_groups_of n h.0.0 w in
      let rest = given_groups (n + 1) ws ms h.1 in
      λ i. first i ++ rest i

  pub given_made_txns : (ws ms : List Txn) → AreGiven ws ms → list_all is_allowed ws ≡ true → AreMadeTxns ws ms
  given_made_txns [] [] h allowed = tt
  given_made_txns [] (m ∷ ms) h allowed = absurd h
  given_made_txns (w ∷ ws) [] h allowed = absurd h
  given_made_txns (w ∷ ws) (m ∷ ms) h allowed = (
    subst (IsMadeTxn w) (sym h.0.1) (given_made enter h.0.0 w (left_true (is_allowed w) (list_all is_allowed ws) allowed)),
    given_made_txns ws ms h.1 (right_true (is_allowed w) (list_all is_allowed ws) allowed),
  )
