-- The groups of a text with two entries behind it.
use Rattle.std.proofs.Common.{ℕ, suc, ◌≡◌, ◌+◌, ◌<◌, ◌≤◌, inl, inr, ◌⊎◌, List, [], ◌∷◌, ◌++◌, length, map, Option, Some, None, refl, sym, ap, ◌∙◌, arith, append_assoc}
use Rattle.std.specs.BTreeSet.{insert_key}
use Rattle.std.specs.Cmp.{nat_cmp_is}
use Rattle.std.specs.List.{slice_get, AllByRecursion}
use Rattle.std.specs.Ordering.{match_ordering, nat_cmp, ordering_then}
use Rattle.std.specs.declared.cmp.Ordering.{Ordering}
use Rattle.std.specs.declared.cmp.Ordering.TheVariants.{Less, Equal, Greater}
use Rattle.std.proofs.lemmas.Bool.{cases_lt}
use Rattle.book.specs.Order.{each_once}
use Rattle.book.specs.declared.transaction.Posting.{Posting}
use Rattle.book.specs.declared.transaction.Txn.{Txn}
use Rattle.balancing.specs.Groups.{Group, day_of, group_cmp, groups_by, groups_from}
use Rattle.balancing.proofs.SolvingRising.{all_append}

-- ---- the order of groups

abbrev pub Before : Group → Group → Type 0
Before g h = (g.0 < h.0) ⊎ ((g.0 ≡ h.0) × (g.1 < h.1))

pub before_trans : (a b c : Group) → Before a b → Before b c → Before a c
before_trans a b c (inl x) (inl y) = inl (omega arith)
before_trans a b c (inl x) (inr y) = inl (omega (arith, y.0))
before_trans a b c (inr x) (inl y) = inl (omega (arith, x.0))
before_trans a b c (inr x) (inr y) = inr (x.0 ∙ y.0, omega (arith, x.1, y.1))

pub before_less : (g h : Group) → Before g h → group_cmp g h ≡ Less
before_less g h (inl x) = ap (λ (o : Ordering). ordering_then o (nat_cmp g.1 h.1)) (sym (nat_cmp_is g.0 h.0 Less x))
before_less g h (inr x) = ap (λ (o : Ordering). ordering_then o (nat_cmp g.1 h.1)) (sym (nat_cmp_is g.0 h.0 Equal x.0)) ∙ sym (nat_cmp_is g.1 h.1 Less x.1)

before_greater : (g h : Group) → Before g h → group_cmp h g ≡ Greater
before_greater g h (inl x) = ap (λ (o : Ordering). ordering_then o (nat_cmp h.1 g.1)) (sym (nat_cmp_is h.0 g.0 Greater x))
before_greater g h (inr x) = ap (λ (o : Ordering). ordering_then o (nat_cmp h.1 g.1)) (sym (nat_cmp_is h.0 g.0 Equal (sym x.0))) ∙ sym (nat_cmp_is h.1 g.1 Greater x.1)

-- of two groups of different transactions one is before the other
apart : (g h : Group) → g.1 < h.1 → (Before g h) ⊎ (Before h g)
apart g h number = by (cases_lt h.0 g.0)
  where
    by : (h.0 < g.0) ⊎ (g.0 ≤ h.0) → (Before g h) ⊎ (Before h g)
    by (inl later) = inr (inl later)
    by (inr most) = elim (cases_lt g.0 h.0) [ inl less ↦ inl (inl less) | inr same ↦ inl (inr (let e : g.0 ≡ h.0 = omega arith in e, number)) ]

abbrev insert : List Group → Group → List Group
insert gs g = insert_key group_cmp gs g

-- one that is before an item goes before it
insert_first : (fs rest : List Group) (p x : Group) → Before x p → insert (fs ++ p ∷ rest) x ≡ insert fs x ++ p ∷ rest
insert_first [] rest p x h = ap (λ (o : Ordering). match_ordering o (x ∷ p ∷ rest) (p ∷ rest) (p ∷ insert rest x)) (before_less x p h)
insert_first (a ∷ fs) rest p x h =
    elim (group_cmp x a) as (λ o. match_ordering o (x ∷ a ∷ (fs ++ p ∷ rest)) (a ∷ (fs ++ p ∷ rest)) (a ∷ insert (fs ++ p ∷ rest) x) ≡ match_ordering o (x ∷ a ∷ fs) (a ∷ fs) (a ∷ insert fs x) ++ p ∷ rest) [
      | Less ↦ refl
      | Equal ↦ refl
      | Greater ↦ ap (λ (l : List Group). a ∷ l) (insert_first fs rest p x h)
    ]

-- the same where all that follow are behind it
insert_front : (fs rest : List Group) (x : Group) → AllByRecursion (λ r. Before x r) rest → insert (fs ++ rest) x ≡ insert fs x ++ rest
insert_front fs [] x h = ap (λ (l : List Group). insert l x) (append_none fs) ∙ sym (append_none (insert fs x))
  where
    append_none : (gs : List Group) → gs ++ [] ≡ gs
    append_none [] = refl
    append_none (g ∷ gs) = ap (λ (l : List Group). g ∷ l) (append_none gs)
insert_front fs (r ∷ rest) x h = insert_first fs rest r x h.0

-- one that is behind all of a front goes behind it
insert_past : (fs rest : List Group) (x : Group) → AllByRecursion (λ a. Before a x) fs → insert (fs ++ rest) x ≡ fs ++ insert rest x
insert_past [] rest x h = refl
insert_past (a ∷ fs) rest x h =
    ap (λ (o : Ordering). match_ordering o (x ∷ a ∷ (fs ++ rest)) (a ∷ (fs ++ rest)) (a ∷ insert (fs ++ rest) x)) (before_greater a x h.0)
    ∙ ap (λ (l : List Group). a ∷ l) (insert_past fs rest x h.1)

insert_all : (P : Group → Type 0) (fs : List Group) (x : Group) → P x → AllByRecursion P fs → AllByRecursion P (insert fs x)
insert_all P [] x p h = (p, tt)
insert_all P (a ∷ fs) x p h =
    elim (group_cmp x a) as (λ o. AllByRecursion P (match_ordering o (x ∷ a ∷ fs) (a ∷ fs) (a ∷ insert fs x))) [
      | Less ↦ (p, h)
      | Equal ↦ h
      | Greater ↦ (h.0, insert_all P fs x p h.1)
    ]

pub all_by : (P Q : Group → Type 0) → ((x : Group) → P x → Q x) → (xs : List Group) → AllByRecursion P xs → AllByRecursion Q xs
all_by P Q f [] h = tt
all_by P Q f (x ∷ xs) h = (f x h.0, all_by P Q f xs h.1)

-- ---- two groups among others

-- Groups, and the same with two more among them: those before the first, those between, and those behind the second.
pub record Parted (P : Group → Type 0) (Quiet : Group → Type 0) (one two : Group) (groups all : List Group) : Type 0 where
  pub first : List Group
  pub second : List Group
  pub third : List Group
  pub groups_are : groups ≡ first ++ (second ++ third)
  pub all_are : all ≡ first ++ one ∷ (second ++ two ∷ third)
  pub kept : AllByRecursion P first
  pub quiet_second : AllByRecursion Quiet second
  pub quiet_third : AllByRecursion Quiet third
  pub before_one : AllByRecursion (λ g. Before g one) first
  pub after_one : AllByRecursion (λ g. Before one g) second
  pub before_two : AllByRecursion (λ g. Before g two) second
  pub after_two : AllByRecursion (λ g. Before two g) third

-- a group is of an earlier transaction, and before another, or quiet
pub record Stands (P Quiet : Group → Type 0) (one : Group) (x : Group) : Type 0 where
  pub kept : P x
  pub number : x.1 < one.1
  pub kind : (Before x one) ⊎ (Quiet x)

module _ (P Quiet : Group → Type 0) (one two : Group) (order : Before one two) where
  insert_low : (groups all : List Group) (x : Group) → P x → Before x one → Parted P Quiet one two groups all → Parted P Quiet one two (insert groups x) (insert all x)
  insert_low groups all x p low d =
      let behind : AllByRecursion (λ r. Before x r) (d.second ++ d.third) =
      all_append (λ r. Before x r) d.second d.third
      (all_by (λ g. Before one g) (λ r. Before x r) (λ g h. before_trans x one g low h) d.second d.after_one)
      (all_by (λ g. Before two g) (λ r. Before x r) (λ g h. before_trans x two g (before_trans x one two low order) h) d.third d.after_two) in
      record {
        first = insert d.first x;
        second = d.second;
        third = d.third;
        groups_are = ap (λ (l : List Group). insert l x) d.groups_are ∙ insert_front d.first (d.second ++ d.third) x behind;
        all_are = ap (λ (l : List Group). insert l x) d.all_are ∙ insert_first d.first (d.second ++ two ∷ d.third) one x low;
        kept = insert_all P d.first x p d.kept;
        quiet_second = d.quiet_second;
        quiet_third = d.quiet_third;
        before_one = insert_all (λ g. Before g one) d.first x low d.before_one;
        after_one = d.after_one;
        before_two = d.before_two;
        after_two = d.after_two;
      }

  insert_middle : (groups all : List Group) (x : Group) → Quiet x → Before one x → Before x two → Parted P Quiet one two groups all → Parted P Quiet one two (insert groups x) (insert all x)
  insert_middle groups all x q low high d =
      let front : AllByRecursion (λ a. Before a x) d.first = all_by (λ g. Before g one) (λ a. Before a x) (λ g h. before_trans g one x h low) d.first d.before_one in
      let behind : AllByRecursion (λ r. Before x r) d.third = all_by (λ g. Before two g) (λ r. Before x r) (λ g h. before_trans x two g high h) d.third d.after_two in
      record {
        first = d.first;
        second = insert d.second x;
        third = d.third;
        groups_are = ap (λ (l : List Group). insert l x) d.groups_are ∙ insert_past d.first (d.second ++ d.third) x front ∙ ap (λ (l : List Group). d.first ++ l) (insert_front d.second d.third x behind);
        all_are =
            ap (λ (l : List Group). insert l x) d.all_are
            ∙ insert_past d.first (one ∷ (d.second ++ two ∷ d.third)) x front
            ∙ ap (λ (l : List Group). d.first ++ l) (insert_past (one ∷ []) (d.second ++ two ∷ d.third) x (low, tt) ∙ ap (λ (l : List Group). one ∷ l) (insert_first d.second d.third two x high));
        kept = d.kept;
        quiet_second = insert_all Quiet d.second x q d.quiet_second;
        quiet_third = d.quiet_third;
        before_one = d.before_one;
        after_one = insert_all (λ g. Before one g) d.second x low d.after_one;
        before_two = insert_all (λ g. Before g two) d.second x high d.before_two;
        after_two = d.after_two;
      }

  insert_high : (groups all : List Group) (x : Group) → Quiet x → Before two x → Parted P Quiet one two groups all → Parted P Quiet one two (insert groups x) (insert all x)
  insert_high groups all x q high d =
      let low : Before one x = before_trans one two x order high in
      let front : AllByRecursion (λ a. Before a x) d.first = all_by (λ g. Before g one) (λ a. Before a x) (λ g h. before_trans g one x h low) d.first d.before_one in
      let middle : AllByRecursion (λ a. Before a x) d.second = all_by (λ g. Before g two) (λ a. Before a x) (λ g h. before_trans g two x h high) d.second d.before_two in
      record {
        first = d.first;
        second = d.second;
        third = insert d.third x;
        groups_are = ap (λ (l : List Group). insert l x) d.groups_are ∙ insert_past d.first (d.second ++ d.third) x front ∙ ap (λ (l : List Group). d.first ++ l) (insert_past d.second d.third x middle);
        all_are =
            ap (λ (l : List Group). insert l x) d.all_are
            ∙ insert_past d.first (one ∷ (d.second ++ two ∷ d.third)) x front
            ∙ ap (λ (l : List Group). d.first ++ l)
            (insert_past (one ∷ []) (d.second ++ two ∷ d.third) x (low, tt)
            ∙ ap (λ (l : List Group). one ∷ l) (insert_past d.second (two ∷ d.third) x middle ∙ ap (λ (l : List Group). d.second ++ l) (insert_past (two ∷ []) d.third x (high, tt))));
        kept = d.kept;
        quiet_second = d.quiet_second;
        quiet_third = insert_all Quiet d.third x q d.quiet_third;
        before_one = d.before_one;
        after_one = d.after_one;
        before_two = d.before_two;
        after_two = insert_all (λ g. Before two g) d.third x high d.after_two;
      }

  number_two : (x : Group) → x.1 < one.1 → one.1 < two.1 → x.1 < two.1
  number_two x a b = omega arith

  insert_one : (groups all : List Group) (x : Group) → one.1 < two.1 → Stands P Quiet one x → Parted P Quiet one two groups all → Parted P Quiet one two (insert groups x) (insert all x)
  insert_one groups all x numbers stands d = by stands.kind
    where
      quiet_by : Quiet x → (Before x one) ⊎ (Before one x) → (Before x two) ⊎ (Before two x) → Parted P Quiet one two (insert groups x) (insert all x)
      quiet_by q (inl low) b = insert_low groups all x stands.kept low d
      quiet_by q (inr low) (inl high) = insert_middle groups all x q low high d
      quiet_by q (inr low) (inr high) = insert_high groups all x q high d

      by : (Before x one) ⊎ (Quiet x) → Parted P Quiet one two (insert groups x) (insert all x)
      by (inl low) = insert_low groups all x stands.kept low d
      by (inr q) = quiet_by q (apart x one stands.number) (apart x two (number_two x stands.number numbers))

  pub parted : (xs more : List Group) → one.1 < two.1 → each_once group_cmp more ≡ one ∷ two ∷ [] → AllByRecursion (Stands P Quiet one) xs
      → Parted P Quiet one two (each_once group_cmp xs) (each_once group_cmp (xs ++ more))
  parted [] more numbers e h = record {
    first = [];
    second = [];
    third = [];
    groups_are = refl;
    all_are = e;
    kept = tt;
    quiet_second = tt;
    quiet_third = tt;
    before_one = tt;
    after_one = tt;
    before_two = tt;
    after_two = tt;
  }
  parted (x ∷ xs) more numbers e h = insert_one (each_once group_cmp xs) (each_once group_cmp (xs ++ more)) x numbers h.0 (parted xs more numbers e h.1)

-- ---- one group among others

-- Groups, and the same with one more among them: those before it, and those behind it.
pub record Divided (P : Group → Type 0) (Quiet : Group → Type 0) (one : Group) (groups all : List Group) : Type 0 where
  pub first : List Group
  pub second : List Group
  pub groups_are : groups ≡ first ++ second
  pub all_are : all ≡ first ++ one ∷ second
  pub kept : AllByRecursion P first
  pub quiet_second : AllByRecursion Quiet second
  pub before_one : AllByRecursion (λ g. Before g one) first
  pub after_one : AllByRecursion (λ g. Before one g) second

module _ (P Quiet : Group → Type 0) (one : Group) where
  divide_low : (groups all : List Group) (x : Group) → P x → Before x one → Divided P Quiet one groups all → Divided P Quiet one (insert groups x) (insert all x)
  divide_low groups all x p low d =
      let behind : AllByRecursion (λ r. Before x r) d.second = all_by (λ g. Before one g) (λ r. Before x r) (λ g h. before_trans x one g low h) d.second d.after_one in
      record {
        first = insert d.first x;
        second = d.second;
        groups_are = ap (λ (l : List Group). insert l x) d.groups_are ∙ insert_front d.first d.second x behind;
        all_are = ap (λ (l : List Group). insert l x) d.all_are ∙ insert_first d.first d.second one x low;
        kept = insert_all P d.first x p d.kept;
        quiet_second = d.quiet_second;
        before_one = insert_all (λ g. Before g one) d.first x low d.before_one;
        after_one = d.after_one;
      }

  divide_high : (groups all : List Group) (x : Group) → Quiet x → Before one x → Divided P Quiet one groups all → Divided P Quiet one (insert groups x) (insert all x)
  divide_high groups all x q high d =
      let front : AllByRecursion (λ a. Before a x) d.first = all_by (λ g. Before g one) (λ a. Before a x) (λ g h. before_trans g one x h high) d.first d.before_one in
      record {
        first = d.first;
        second = insert d.second x;
        groups_are = ap (λ (l : List Group). insert l x) d.groups_are ∙ insert_past d.first d.second x front;
        all_are =
            ap (λ (l : List Group). insert l x) d.all_are
            ∙ insert_past d.first (one ∷ d.second) x front
            ∙ ap (λ (l : List Group). d.first ++ l) (insert_past (one ∷ []) d.second x (high, tt));
        kept = d.kept;
        quiet_second = insert_all Quiet d.second x q d.quiet_second;
        before_one = d.before_one;
        after_one = insert_all (λ g. Before one g) d.second x high d.after_one;
      }

  divide_one : (groups all : List Group) (x : Group) → Stands P Quiet one x → Divided P Quiet one groups all → Divided P Quiet one (insert groups x) (insert all x)
  divide_one groups all x stands d = by stands.kind
    where
      quiet_by : Quiet x → (Before x one) ⊎ (Before one x) → Divided P Quiet one (insert groups x) (insert all x)
      quiet_by q (inl low) = divide_low groups all x stands.kept low d
      quiet_by q (inr high) = divide_high groups all x q high d

      by : (Before x one) ⊎ (Quiet x) → Divided P Quiet one (insert groups x) (insert all x)
      by (inl low) = divide_low groups all x stands.kept low d
      by (inr q) = quiet_by q (apart x one stands.number)

  pub divided : (xs more : List Group) → each_once group_cmp more ≡ one ∷ [] → AllByRecursion (Stands P Quiet one) xs
      → Divided P Quiet one (each_once group_cmp xs) (each_once group_cmp (xs ++ more))
  divided [] more e h = record {
    first = [];
    second = [];
    groups_are = refl;
    all_are = e;
    kept = tt;
    quiet_second = tt;
    before_one = tt;
    after_one = tt;
  }
  divided (x ∷ xs) more e h = divide_one (each_once group_cmp xs) (each_once group_cmp (xs ++ more)) x h.0 (divided xs more e h.1)

-- ---- the groups of transactions

-- a transaction without postings
abbrev pub BareIf : Option Txn → Type 0
BareIf None = Unit {0}
BareIf (Some t) = t.postings ≡ []

-- no posting is after a day
abbrev pub IsOnTime : ℕ → Txn → Type 0
IsOnTime on t = AllByRecursion (λ p. day_of t p ≤ on) t.postings

-- What is known of a group of transactions that are counted from a number.
pub record IsGroup (on number : ℕ) (txns : List Txn) (g : Group) : Type 0 where
  pub place : ℕ
  pub is : g.1 ≡ number + place
  pub within : place < length txns
  pub kind : (g.0 ≤ on) ⊎ BareIf (slice_get txns place)

same_days : (on n : ℕ) (t : Txn) (ts : List Txn) (ps : List Posting) → AllByRecursion (λ p. day_of t p ≤ on) ps → AllByRecursion (IsGroup on n (t ∷ ts)) (map (λ q. (day_of t q, n)) ps)
same_days on n t ts [] h = tt
same_days on n t ts (p ∷ ps) h = (record { place = 0; is = omega arith; within = omega arith; kind = inl h.0 }, same_days on n t ts ps h.1)

own_groups : (on n : ℕ) (t : Txn) (ts : List Txn) (ps : List Posting) → t.postings ≡ ps → AllByRecursion (λ p. day_of t p ≤ on) ps → AllByRecursion (IsGroup on n (t ∷ ts)) (groups_by n t ps)
own_groups on n t ts [] e h = (record { place = 0; is = omega arith; within = omega arith; kind = inr e }, tt)
own_groups on n t ts (p ∷ ps) e h = same_days on n t ts (p ∷ ps) h

later_group : (on n : ℕ) (t : Txn) (ts : List Txn) (g : Group) → IsGroup on (n + 1) ts g → IsGroup on n (t ∷ ts) g
later_group on n t ts g is = record { place = suc is.place; is = omega (arith, is.is); within = omega (arith, is.within); kind = is.kind }

pub groups_known : (on n : ℕ) (ts : List Txn) → AllByRecursion (IsOnTime on) ts → AllByRecursion (IsGroup on n ts) (groups_from n ts)
groups_known on n [] h = tt
groups_known on n (t ∷ ts) h =
    all_append (IsGroup on n (t ∷ ts)) (groups_by n t t.postings) (groups_from (n + 1) ts)
    (own_groups on n t ts t.postings refl h.0)
    (all_by (IsGroup on (n + 1) ts) (IsGroup on n (t ∷ ts)) (later_group on n t ts) (groups_from (n + 1) ts) (groups_known on (n + 1) ts h.1))

pub groups_append : (n : ℕ) (ts us : List Txn) → groups_from n (ts ++ us) ≡ groups_from n ts ++ groups_from (n + length ts) us
groups_append n [] us = ap (λ (k : ℕ). groups_from k us) (none n)
  where
    none : (n : ℕ) → n ≡ n + 0
    none n = omega arith
groups_append n (t ∷ ts) us =
    ap (λ (gs : List Group). groups_by n t t.postings ++ gs) (groups_append (n + 1) ts us ∙ ap (λ (k : ℕ). groups_from (n + 1) ts ++ groups_from k us) (next n (length ts)))
    ∙ sym (append_assoc (groups_by n t t.postings) (groups_from (n + 1) ts) (groups_from (n + suc (length ts)) us))
  where
    next : (n k : ℕ) → n + 1 + k ≡ n + suc k
    next n k = omega arith
