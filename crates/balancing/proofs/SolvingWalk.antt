-- The postings of a book with their places: in the order of the text, and group after group.
use Rattle.std.proofs.Common.{◌≡◌, ℕ, zero, suc, ◌<◌, ◌+◌, Bool, true, false, cond, ◌&&◌, not, eqb, List, [], ◌∷◌, ◌++◌, map, filter, Option, Some, None, refl, sym, ap, ◌∙◌, subst, arith}
use Rattle.std.specs.Ordering.{nat_cmp, is_eq, eq_by_cmp}
use Rattle.std.specs.Cmp.{tied_then}
use Rattle.std.specs.List.{flat_map, list_any, slice_get}
use Rattle.std.proofs.lemmas.Bool.Decides.{nat_tests, Decides-eqb}
use Rattle.std.proofs.lemmas.List.{append-nil, map-append}
use Rattle.std.proofs.lemmas.List.Elements.{filter-append}
use Rattle.book.specs.declared.transaction.Posting.{Posting}
use Rattle.book.specs.declared.transaction.Txn.{Txn}
use Rattle.book.specs.SumsBefore.{Place, is_assigned, number_in, placed_in, placed_from}
use Rattle.balancing.specs.declared.groups.Part.{Part}
use Rattle.balancing.specs.declared.groups.Part.TheVariants as part
use Rattle.balancing.specs.Groups.{Group, group_cmp, day_of}
use Rattle.balancing.specs.Parts.{is_found, is_chosen, part_on, postings_on}
use Rattle.balancing.proofs.SolvingOrders.{Reorders, nothing, further, joined, by_equal, to_middle}
use Rattle.balancing.proofs.SolvingGroups.{Ascends, Covered, of_group, group_by_group, each_reordered}

abbrev pub Entry : Type 0
Entry = Place × Posting

-- the group of a posting
abbrev pub group_in : Entry → Group
group_in e = (e.0.day, e.0.txn)

abbrev pub placed_part : Part → ℕ → ℕ → Txn → List Entry
placed_part kind day n t = filter (λ e. is_chosen kind day t e.1) (placed_in t n 0 t.postings)

abbrev pub placed_on_by : Bool → ℕ → ℕ → Txn → List Entry
placed_on_by true day n t = placed_part part.ButFound day n t ++ placed_part part.Found day n t
placed_on_by false day n t = placed_part part.All day n t

-- the postings of a transaction's group on a day, each with its place
abbrev pub placed_on : ℕ → ℕ → Txn → List Entry
placed_on day n t = placed_on_by (list_any is_assigned t.postings) day n t

abbrev pub placed_group : Group → Option Txn → List Entry
placed_group g None = []
placed_group g (Some t) = placed_on g.0 g.1 t

-- the postings of a book, group after group
abbrev pub walk_of : List Txn → List Group → List Entry
walk_of book gs = flat_map (λ g. placed_group g (slice_get book g.1)) gs

-- ---- without the places

unplaced : (p : Posting → Bool) (t : Txn) (n k : ℕ) (ps : List Posting) → map (λ (e : Entry). e.1) (filter (λ e. p e.1) (placed_in t n k ps)) ≡ filter p ps
unplaced p t n k [] = refl
unplaced p t n k (q ∷ ps) =
    elim (p q) as (λ b. map (λ (e : Entry). e.1) (cond b ((record { day = day_of t q; txn = n; posting = number_in t k q }, q) ∷ filter (λ e. p e.1) (placed_in t n (suc k) ps)) (filter (λ e. p e.1) (placed_in t n (suc k) ps))) ≡ cond b (q ∷ filter p ps) (filter p ps)) [
      | true ↦ ap (λ (qs : List Posting). q ∷ qs) (unplaced p t n (suc k) ps)
      | false ↦ unplaced p t n (suc k) ps
    ]

pub unplaced_on : (day n : ℕ) (t : Txn) → map (λ (e : Entry). e.1) (placed_on day n t) ≡ postings_on day t
unplaced_on day n t =
    elim (list_any is_assigned t.postings) as (λ b. map (λ (e : Entry). e.1) (placed_on_by b day n t) ≡ cond b (part_on part.ButFound day t ++ part_on part.Found day t) (part_on part.All day t)) [
      | true ↦ map-append (λ (e : Entry). e.1) (placed_part part.ButFound day n t) (placed_part part.Found day n t)
          ∙ ap (λ (qs : List Posting). qs ++ map (λ (e : Entry). e.1) (placed_part part.Found day n t)) (unplaced (is_chosen part.ButFound day t) t n 0 t.postings)
          ∙ ap (λ (qs : List Posting). part_on part.ButFound day t ++ qs) (unplaced (is_chosen part.Found day t) t n 0 t.postings)
      | false ↦ unplaced (is_chosen part.All day t) t n 0 t.postings
    ]

-- ---- all postings are there group after group

pub filter_alike : {A : Type 0} (p q : A → Bool) → ((x : A) → p x ≡ q x) → (xs : List A) → filter p xs ≡ filter q xs
filter_alike p q h [] = refl
filter_alike p q h (x ∷ xs) = λ i. cond (h x i) (x ∷ filter_alike p q h xs i) (filter_alike p q h xs i)

and_true : (b : Bool) → b ≡ (b && true)
and_true true = refl
and_true false = refl

one_more : {A : Type 0} (x : A) (a b : Bool) {xs : List A} (ys zs : List A) → Reorders xs (ys ++ zs) → Reorders (cond a (x ∷ xs) xs) (cond (a && not b) (x ∷ ys) ys ++ cond (a && b) (x ∷ zs) zs)
one_more x true true ys zs r = joined (further x r) (to_middle x ys zs)
one_more x true false ys zs r = further x r
one_more x false b ys zs r = r

-- those that pass a test, in two parts by another test
pub two_parts : {A : Type 0} (p q : A → Bool) (xs : List A) → Reorders (filter p xs) (filter (λ x. p x && not (q x)) xs ++ filter (λ x. p x && q x) xs)
two_parts p q [] = nothing
two_parts p q (x ∷ xs) = one_more x (p x) (q x) _ _ (two_parts p q xs)

on_day : (day n : ℕ) (t : Txn) → Reorders (filter (λ (e : Entry). eqb (day_of t e.1) day) (placed_in t n 0 t.postings)) (placed_on day n t)
on_day day n t =
    elim (list_any is_assigned t.postings) as (λ b. Reorders (filter (λ (e : Entry). eqb (day_of t e.1) day) (placed_in t n 0 t.postings)) (placed_on_by b day n t)) [
      | true ↦ two_parts (λ (e : Entry). eqb (day_of t e.1) day) (λ (e : Entry). is_found e.1) (placed_in t n 0 t.postings)
      | false ↦ by_equal (filter_alike (λ (e : Entry). eqb (day_of t e.1) day) (λ (e : Entry). eqb (day_of t e.1) day && true) (λ e. and_true (eqb (day_of t e.1) day)) (placed_in t n 0 t.postings))
    ]

equal_numbers : (a b : ℕ) → is_eq (nat_cmp a b) ≡ eqb a b
equal_numbers a b = grind (arith, nat_tests)

equal_parts : (a b c d : ℕ) → eq_by_cmp group_cmp (a, b) (c, d) ≡ (eqb a c && eqb b d)
equal_parts a b c d = sym (tied_then (nat_cmp a c) (nat_cmp b d)) ∙ (λ i. equal_numbers a c i && equal_numbers b d i)

and_false : (b : Bool) → (b && false) ≡ false
and_false true = refl
and_false false = refl

pub equal_true : (a b : ℕ) → a ≡ b → eqb a b ≡ true
equal_true a b h = (Decides-eqb a b).1 h

pub equal_false : (a b : ℕ) → a < b → eqb a b ≡ false
equal_false a b h = grind (arith, nat_tests)

equal_false_up : (a b : ℕ) → b < a → eqb a b ≡ false
equal_false_up a b h = grind (arith, nat_tests)

own_number : (day n : ℕ) (t : Txn) (k : ℕ) (ps : List Posting) → of_group group_in (day, n) (placed_in t n k ps) ≡ filter (λ (e : Entry). eqb (day_of t e.1) day) (placed_in t n k ps)
own_number day n t k [] = refl
own_number day n t k (p ∷ ps) =
    let is : eq_by_cmp group_cmp (day_of t p, n) (day, n) ≡ eqb (day_of t p) day =
    equal_parts (day_of t p) n day n ∙ ap (λ b. eqb (day_of t p) day && b) (equal_true n n refl) ∙ sym (and_true (eqb (day_of t p) day)) in
    λ i. cond (is i) ((record { day = day_of t p; txn = n; posting = number_in t k p }, p) ∷ own_number day n t (suc k) ps i) (own_number day n t (suc k) ps i)

other_number : (day n m : ℕ) (t : Txn) (k : ℕ) (ps : List Posting) → eqb n m ≡ false → of_group group_in (day, m) (placed_in t n k ps) ≡ []
other_number day n m t k [] h = refl
other_number day n m t k (p ∷ ps) h =
    let is : eq_by_cmp group_cmp (day_of t p, n) (day, m) ≡ false =
    equal_parts (day_of t p) n day m ∙ ap (λ b. eqb (day_of t p) day && b) h ∙ and_false (eqb (day_of t p) day) in
    λ i. cond (is i) ((record { day = day_of t p; txn = n; posting = number_in t k p }, p) ∷ other_number day n m t (suc k) ps h i) (other_number day n m t (suc k) ps h i)

of_parts : (g : Group) (xs ys : List Entry) → of_group group_in g (xs ++ ys) ≡ of_group group_in g xs ++ of_group group_in g ys
of_parts g xs ys = filter-append (λ (e : Entry). eq_by_cmp group_cmp (group_in e) g) xs ys

later_none : (day n m : ℕ) (ts : List Txn) → m < n → of_group group_in (day, m) (placed_from n ts) ≡ []
later_none day n m [] h = refl
later_none day n m (t ∷ ts) h =
    of_parts (day, m) (placed_in t n 0 t.postings) (placed_from (suc n) ts)
    ∙ ap (λ (es : List Entry). es ++ of_group group_in (day, m) (placed_from (suc n) ts)) (other_number day n m t 0 t.postings (equal_false_up n m h))
    ∙ later_none day (suc n) m ts (omega arith)

of_number : (day n m k : ℕ) (ts : List Txn) → m ≡ n + k → Reorders (of_group group_in (day, m) (placed_from n ts)) (placed_group (day, m) (slice_get ts k))
of_number day n m k [] h = nothing
of_number day n m zero (t ∷ ts) h =
    let same : n ≡ m = omega arith in
    subst (λ (m : ℕ). Reorders (of_group group_in (day, m) (placed_from n (t ∷ ts))) (placed_on day m t)) same
    (joined (by_equal (of_parts (day, n) (placed_in t n 0 t.postings) (placed_from (suc n) ts)
    ∙ ap (λ (es : List Entry). of_group group_in (day, n) (placed_in t n 0 t.postings) ++ es) (later_none day (suc n) n ts (omega arith))
    ∙ append-nil (of_group group_in (day, n) (placed_in t n 0 t.postings)) ∙ own_number day n t 0 t.postings))
    (on_day day n t))
of_number day n m (suc k) (t ∷ ts) h =
    joined (by_equal (of_parts (day, m) (placed_in t n 0 t.postings) (placed_from (suc n) ts)
    ∙ ap (λ (es : List Entry). es ++ of_group group_in (day, m) (placed_from (suc n) ts)) (other_number day n m t 0 t.postings (equal_false n m (omega arith)))))
    (of_number day (suc n) m k ts (omega arith))

-- all postings of a book are there group after group
pub walk_reorders : (book : List Txn) (gs : List Group) → Ascends gs → Covered group_in gs (placed_from 0 book) → Reorders (placed_from 0 book) (walk_of book gs)
walk_reorders book gs up covered =
    joined (group_by_group group_in gs up (placed_from 0 book) covered)
    (each_reordered (λ g. of_group group_in g (placed_from 0 book)) (λ g. placed_group g (slice_get book g.1)) (λ g. of_number g.0 0 g.1 g.1 book (omega arith)) gs)
