-- Assignments that are made group after group stay: in the end each transaction is given by what stands before it.
use Rattle.std.proofs.Common.{◌≡◌, ℕ, zero, suc, ◌+◌, Bool, true, false, cond, ◌&&◌, ◌||◌, eqb, List, [], ◌∷◌, ◌++◌, map, Option, Some, None, is_some, is_none, refl, sym, ap, ◌∙◌, subst, arith}
use Rattle.std.specs.Prelude.{unwrap_or}
use Rattle.std.specs.declared.cmp.Ordering.TheVariants.{Less, Equal, Greater}
use Rattle.std.specs.Ordering.{match_ordering}
use Rattle.std.specs.BTreeSet.{insert_key}
use Rattle.std.specs.List.{slice_get, AllByRecursion}
use Rattle.std.specs.Option.{option_map}
use Rattle.hl_num.specs.Decimal.{Decimal}
use Rattle.hl_time.specs.declared.day.Day.{Day}
use Rattle.std.proofs.lemmas.Bool.{false≢true}
use Rattle.std.proofs.lemmas.Bool.Decides.{nat_tests, Decides-eqb}
use Rattle.book.specs.declared.amount.Amount.{Amount}
use Rattle.book.specs.declared.amount.Assertion.{Assertion}
use Rattle.book.specs.declared.transaction.Posting.{Posting}
use Rattle.book.specs.declared.transaction.Txn.{Txn}
use Rattle.book.specs.Order.{each_once}
use Rattle.entry_balance.specs.Entry.{with_postings, is_assignment, has_assignment, is_assignable, assignment_fault}
use Rattle.balancing.specs.Groups.{Group, group_cmp, groups_by, groups_from, groups_of, day_of}
use Rattle.balancing.specs.Parts.{postings_of_group}
use Rattle.balancing.specs.Assigned.{given_posting_by, given_postings_by, given_by, given_at_by, given_from_by, assigned_by}
use Rattle.balancing.proofs.SolvingRising.{all_append}
use Rattle.balancing.proofs.SolvingGroups.{Ascends, each_once-ascends, same_group}
use Rattle.balancing.proofs.SolvingTxn.{assignable_days}

-- ---- what is given has no assignment

module _ (enter : Decimal → Decimal) where
  given_none : (seen : List Posting) (a : Option Amount) (o : Option Assertion) (w : Posting) → w.amount ≡ a → w.wanted ≡ o → is_assignment (given_posting_by enter seen w a o) ≡ false
  given_none seen (Some a) o w e f = ap (λ (x : Option Amount). is_none x && is_some w.wanted) e
  given_none seen None None w e f = ap (λ (x : Option Assertion). is_none w.amount && is_some x) f ∙ and_none (is_none w.amount)
    where
      and_none : (b : Bool) → (b && false) ≡ false
      and_none true = refl
      and_none false = refl
  given_none seen None (Some x) w e f = refl

  none_left : (seen ws : List Posting) → has_assignment (given_postings_by enter seen ws) ≡ false
  none_left seen [] = refl
  none_left seen (w ∷ ws) =
      λ i. given_none seen w.amount w.wanted w refl refl i || none_left (seen ++ given_posting_by enter seen w w.amount w.wanted ∷ []) ws i

  -- it stays as it is
  pub given_again : (later seen : List Posting) (t : Txn) → given_by enter later (given_by enter seen t) ≡ given_by enter seen t
  given_again later seen t =
      elim (is_assignable t.postings) as (λ b. is_assignable t.postings ≡ b → given_by enter later (cond b (with_postings t (given_postings_by enter seen t.postings)) t) ≡ cond b (with_postings t (given_postings_by enter seen t.postings)) t) [
        | true ↦ λ e.
            let u = with_postings t (given_postings_by enter seen t.postings) in
            ap (λ (b : Bool). cond b (with_postings u (given_postings_by enter later u.postings)) u) (ap (λ b. b && is_none (assignment_fault u.postings)) (none_left seen t.postings))
        | false ↦ λ e. ap (λ (b : Bool). cond b (with_postings t (given_postings_by enter later t.postings)) t) e
      ] refl

  pub given_not : (seen : List Posting) (t : Txn) → is_assignable t.postings ≡ false → given_by enter seen t ≡ t
  given_not seen t e = ap (λ (b : Bool). cond b (with_postings t (given_postings_by enter seen t.postings)) t) e

-- ---- the day of a group

-- a transaction whose assignments can be made has its postings on its own day
abbrev pub OwnDay : List Txn → Group → Type 0
OwnDay written g = (t : Txn) → slice_get written g.1 ≡ Some t → is_assignable t.postings ≡ true → g.0 ≡ t.day.0

some_same : {A : Type 0} (x y : A) → Some x ≡ Some y → x ≡ y
some_same x y e = cc

module _ (written : List Txn) where
  own_days : (n : ℕ) (t : Txn) (ps : List Posting) → slice_get written n ≡ Some t → (is_assignable t.postings ≡ true → AllByRecursion (λ p. p.day ≡ None) ps) → AllByRecursion (OwnDay written) (map (λ q. (day_of t q, n)) ps)
  own_days n t [] at h = tt
  own_days n t (p ∷ ps) at h = (
    (λ u is can.
        let same : t ≡ u = some_same t u (sym at ∙ is) in
        let mine : is_assignable t.postings ≡ true = ap (λ (x : Txn). is_assignable x.postings) same ∙ can in
        ap (λ (o : Option Day). (unwrap_or o t.day).0) (h mine).0 ∙ ap (λ (x : Txn). x.day.0) same),
    own_days n t ps at (λ can. (h can).1),
  )

  own_days_by : (n : ℕ) (t : Txn) (ps : List Posting) → slice_get written n ≡ Some t → (is_assignable t.postings ≡ true → AllByRecursion (λ p. p.day ≡ None) ps) → AllByRecursion (OwnDay written) (groups_by n t ps)
  own_days_by n t [] at h = ((λ u is can. ap (λ (x : Txn). x.day.0) (some_same t u (sym at ∙ is))), tt)
  own_days_by n t (p ∷ ps) at h = own_days n t (p ∷ ps) at h

  own_from : (n : ℕ) (ts : List Txn) → ((k : ℕ) (t : Txn) → slice_get ts k ≡ Some t → slice_get written (n + k) ≡ Some t) → AllByRecursion (OwnDay written) (groups_from n ts)
  own_from n [] h = tt
  own_from n (t ∷ ts) h =
      all_append (OwnDay written) (groups_by n t t.postings) (groups_from (n + 1) ts)
      (own_days_by n t t.postings (ap (slice_get written) (none_more n) ∙ h 0 t refl) (assignable_days t.postings))
      (own_from (n + 1) ts (λ k u is. ap (slice_get written) (one_more n k) ∙ h (suc k) u is))
    where
      none_more : (n : ℕ) → n ≡ n + 0
      none_more n = omega arith

      one_more : (n k : ℕ) → (n + 1) + k ≡ n + suc k
      one_more n k = omega arith

all_inserted : (P : Group → Type 0) (g : Group) (gs : List Group) → P g → AllByRecursion P gs → AllByRecursion P (insert_key group_cmp gs g)
all_inserted P g [] h all = (h, tt)
all_inserted P g (x ∷ gs) h all =
    elim (group_cmp g x) as (λ o. AllByRecursion P (match_ordering o (g ∷ x ∷ gs) (x ∷ gs) (x ∷ insert_key group_cmp gs g))) [
      | Less ↦ (h, all)
      | Equal ↦ all
      | Greater ↦ (all.0, all_inserted P g gs h all.1)
    ]

pub all_once : (P : Group → Type 0) (gs : List Group) → AllByRecursion P gs → AllByRecursion P (each_once group_cmp gs)
all_once P [] all = tt
all_once P (g ∷ gs) all = all_inserted P g (each_once group_cmp gs) all.0 (all_once P gs all.1)

pub own_groups : (written : List Txn) → AllByRecursion (OwnDay written) (groups_of written)
own_groups written = all_once (OwnDay written) (groups_from 0 written) (own_from written 0 written (λ k t is. ap (slice_get written) (from_none k) ∙ is))
  where
    from_none : (k : ℕ) → 0 + k ≡ k
    from_none k = omega arith

-- ---- made group after group

module _ (enter : Decimal → Decimal) where
  -- after each group's forerunners its transaction is given by their postings
  abbrev pub Fixed : List Txn → List Txn → List Posting → List Group → Type 0
  Fixed written made seen [] = Unit {0}
  Fixed written made seen (g ∷ gs) =
      (slice_get made g.1 ≡ option_map (given_by enter seen) (slice_get written g.1))
      × Fixed written made (seen ++ postings_of_group g.0 (slice_get made g.1)) gs

  -- a transaction that nothing more is given to
  abbrev Stays : Option Txn → Type 0
  Stays o = (later : List Posting) → option_map (given_by enter later) o ≡ o

  at_number : (seen : List Posting) (n : ℕ) (ts : List Txn) → slice_get (given_at_by enter seen n ts) n ≡ option_map (given_by enter seen) (slice_get ts n)
  at_number seen n [] = refl
  at_number seen zero (t ∷ ts) = refl
  at_number seen (suc n) (t ∷ ts) = at_number seen n ts

  at_other : (seen : List Posting) (n m : ℕ) (ts : List Txn) → eqb n m ≡ false → slice_get (given_at_by enter seen n ts) m ≡ slice_get ts m
  at_other seen n m [] h = refl
  at_other seen zero zero (t ∷ ts) h = absurd (false≢true (sym h))
  at_other seen zero (suc m) (t ∷ ts) h = refl
  at_other seen (suc n) zero (t ∷ ts) h = refl
  at_other seen (suc n) (suc m) (t ∷ ts) h = at_other seen n m ts (suc_differ n m h)
    where
      suc_differ : (n m : ℕ) → eqb (suc n) (suc m) ≡ false → eqb n m ≡ false
      suc_differ n m h = grind (arith, nat_tests)

  stays_at : (seen : List Posting) (n m : ℕ) (ts : List Txn) → Stays (slice_get ts m) → slice_get (given_at_by enter seen n ts) m ≡ slice_get ts m
  stays_at seen n m ts stays =
      elim (eqb n m) as (λ b. eqb n m ≡ b → slice_get (given_at_by enter seen n ts) m ≡ slice_get ts m) [
        | true ↦ λ e. subst (λ (n : ℕ). slice_get (given_at_by enter seen n ts) m ≡ slice_get ts m) (sym ((Decides-eqb n m).0 e)) (at_number seen m ts ∙ stays seen)
        | false ↦ λ e. at_other seen n m ts e
      ] refl

  stays_from : (seen : List Posting) (gs : List Group) (m : ℕ) (ts : List Txn) → Stays (slice_get ts m) → slice_get (given_from_by enter ts seen gs) m ≡ slice_get ts m
  stays_from seen [] m ts stays = refl
  stays_from seen (g ∷ gs) m ts stays =
      let next = given_at_by enter seen g.1 ts in
      let same = stays_at seen g.1 m ts stays in
      stays_from (seen ++ postings_of_group g.0 (slice_get next g.1)) gs m next (subst Stays (sym same) stays) ∙ same

  given_stays : (seen : List Posting) (o : Option Txn) → Stays (option_map (given_by enter seen) o)
  given_stays seen None later = refl
  given_stays seen (Some t) later = ap Some (given_again enter later seen t)

  -- it would be given the same as what is written
  abbrev GivesSame : List Txn → List Txn → Group → Type 0
  GivesSame written ts g = (seen : List Posting) → option_map (given_by enter seen) (slice_get ts g.1) ≡ option_map (given_by enter seen) (slice_get written g.1)

  -- two groups of one transaction that isn't assignable, or two transactions
  gives_again : (seen : List Posting) (o : Option Txn) → ((t : Txn) → o ≡ Some t → is_assignable t.postings ≡ true → ⊥) → (later : List Posting) → option_map (given_by enter later) (option_map (given_by enter seen) o) ≡ option_map (given_by enter later) o
  gives_again seen None h later = refl
  gives_again seen (Some t) h later =
      elim (is_assignable t.postings) as (λ b. is_assignable t.postings ≡ b → Some (given_by enter later (given_by enter seen t)) ≡ Some (given_by enter later t)) [
        | true ↦ λ e. absurd (h t refl e)
        | false ↦ λ e. ap (λ (x : Txn). Some (given_by enter later x)) (given_not enter seen t e)
      ] refl

one_group : (written : List Txn) (g h : Group) → OwnDay written g → OwnDay written h → group_cmp g h ≡ Less → g.1 ≡ h.1 → (t : Txn) → slice_get written g.1 ≡ Some t → is_assignable t.postings ≡ true → ⊥
one_group written g h own_g own_h less same t at can =
    let day_g = own_g t at can in
    let day_h = own_h t (ap (slice_get written) (sym same) ∙ at) can in
    let equal : g ≡ h = λ i. ((day_g ∙ sym day_h) i, same i) in
    let tie : group_cmp g h ≡ Equal = ap (λ (x : Group). group_cmp g x) (sym equal) ∙ same_group g in
    let no : ⊥ = cc in no

module _ (enter : Decimal → Decimal) where
  gives_next : (written ts : List Txn) (seen : List Posting) (g : Group) (gs : List Group) → GivesSame enter written ts g → OwnDay written g → AllByRecursion (λ h. group_cmp g h ≡ Less) gs → AllByRecursion (OwnDay written) gs → AllByRecursion (GivesSame enter written ts) gs → AllByRecursion (GivesSame enter written (given_at_by enter seen g.1 ts)) gs
  gives_next written ts seen g [] here own_g less own all = tt
  gives_next written ts seen g (h ∷ gs) here own_g less own all = (
    (λ later. elim (eqb g.1 h.1) as (λ b. eqb g.1 h.1 ≡ b → option_map (given_by enter later) (slice_get (given_at_by enter seen g.1 ts) h.1) ≡ option_map (given_by enter later) (slice_get written h.1)) [
      | true ↦ λ e.
          let same : g.1 ≡ h.1 = (Decides-eqb g.1 h.1).0 e in
          ap (λ (n : ℕ). option_map (given_by enter later) (slice_get (given_at_by enter seen g.1 ts) n)) (sym same)
          ∙ ap (option_map (given_by enter later)) (at_number enter seen g.1 ts ∙ here seen)
          ∙ gives_again enter seen (slice_get written g.1) (one_group written g h own_g own.0 less.0 same) later
          ∙ ap (λ (n : ℕ). option_map (given_by enter later) (slice_get written n)) same
      | false ↦ λ e. ap (option_map (given_by enter later)) (at_other enter seen g.1 h.1 ts e) ∙ all.0 later
    ] refl),
    gives_next written ts seen g gs here own_g less.1 own.1 all.1,
  )

  pub fixed_from : (written ts : List Txn) (seen : List Posting) (gs : List Group) → Ascends gs → AllByRecursion (OwnDay written) gs → AllByRecursion (GivesSame enter written ts) gs → Fixed enter written (given_from_by enter ts seen gs) seen gs
  fixed_from written ts seen [] up own all = tt
  fixed_from written ts seen (g ∷ gs) up own all =
      let next = given_at_by enter seen g.1 ts in
      let after = seen ++ postings_of_group g.0 (slice_get next g.1) in
      let here : slice_get next g.1 ≡ option_map (given_by enter seen) (slice_get written g.1) = at_number enter seen g.1 ts ∙ all.0 seen in
      let stays : Stays enter (slice_get next g.1) = subst (Stays enter) (sym here) (given_stays enter seen (slice_get written g.1)) in
      let last : slice_get (given_from_by enter next after gs) g.1 ≡ slice_get next g.1 = stays_from enter after gs g.1 next stays in (
        last ∙ here,
        subst (λ (o : Option Txn). Fixed enter written (given_from_by enter next after gs) (seen ++ postings_of_group g.0 o) gs) (sym last)
            (fixed_from written next after gs up.1 own.1 (gives_next written ts seen g gs all.0 own.0 up.0 own.1 all.1)),
      )

  all_give : (written : List Txn) (gs : List Group) → AllByRecursion (GivesSame enter written written) gs
  all_give written [] = tt
  all_give written (g ∷ gs) = ((λ seen. refl), all_give written gs)

  -- the assignments of a text, made group after group
  pub fixed_assigned : (written : List Txn) → Fixed enter written (assigned_by enter written) [] (groups_of written)
  fixed_assigned written = fixed_from written written [] (groups_of written) (each_once-ascends (groups_from 0 written)) (own_groups written) (all_give written (groups_of written))
