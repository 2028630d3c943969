-- What an account holds at a place is what it holds after the postings that come before in the walk.
use Rattle.std.proofs.Common.{◌≡◌, ℕ, Bool, true, false, cond, ◌&&◌, ◌||◌, eqb, List, [], ◌∷◌, ◌++◌, map, filter, refl, sym, ap, ◌∙◌, subst, arith}
use Rattle.std.specs.List.{AllByRecursion, starts_with}
use Rattle.std.specs.Prelude.{nat_eq}
use Rattle.std.specs.Str.{bytes_eq}
use Rattle.std.proofs.lemmas.Bool.{false≢true}
use Rattle.std.proofs.lemmas.Bool.Decides.{nat_tests}
use Rattle.std.proofs.lemmas.List.{append_assoc, map-append}
use Rattle.hl_base.specs.Ascii.{colon}
use Rattle.book.specs.declared.transaction.Posting.{Posting}
use Rattle.book.specs.declared.transaction.Txn.{Txn}
use Rattle.book.specs.SumsBefore.{Place, is_before, is_of, placed_from}
use Rattle.entry_balance.specs.Values.{Value, value_of}
use Rattle.entry_balance.specs.Entry.{from_amount}
use Rattle.assertions.specs.Assertions.{lies_under, counts_for, held_in}
use Rattle.balancing.specs.Solves.{values_of, values_before}
use Rattle.balancing.proofs.SolvingOrders.{Reorders, joined, by_equal, mapped, filtered, spread}
use Rattle.balancing.proofs.SolvingWalk.{Entry}

turned : (a b : ℕ) → eqb a b ≡ eqb b a
turned a b = grind (arith, nat_tests)

and_true : (b : Bool) → b ≡ (b && true)
and_true true = refl
and_true false = refl

same_head : (a b : Bool) (x y z : Bool) → a ≡ b → x ≡ (y || z) → cond a x false ≡ ((a && y) || (b && z))
same_head true true x y z e h = h
same_head true false x y z e h = absurd (false≢true (sym e))
same_head false true x y z e h = absurd (false≢true e)
same_head false false x y z e h = refl

-- an account is another one or lies under it
pub lies_under_is : (name root : List ℕ) → lies_under name root ≡ (bytes_eq name root || starts_with nat_eq name (root ++ colon ∷ []))
lies_under_is [] [] = refl
lies_under_is [] (r ∷ root) = refl
lies_under_is (b ∷ name) [] = turned b 58 ∙ and_true (eqb 58 b)
lies_under_is (b ∷ name) (r ∷ root) = same_head (eqb b r) (eqb r b) (lies_under name root) (bytes_eq name root) (starts_with nat_eq name (root ++ colon ∷ [])) (turned b r) (lies_under_is name root)

bytes_turned : (a b : List ℕ) → bytes_eq a b ≡ bytes_eq b a
bytes_turned [] [] = refl
bytes_turned [] (y ∷ ys) = refl
bytes_turned (x ∷ xs) [] = refl
bytes_turned (x ∷ xs) (y ∷ ys) = λ i. turned x y i && bytes_turned xs ys i

or_none : (b : Bool) → b ≡ (b || false)
or_none true = refl
or_none false = refl

pub counts_is : (below : Bool) (root name : List ℕ) → counts_for below root name ≡ is_of root below name
counts_is true root name = lies_under_is name root
counts_is false root name = bytes_turned root name ∙ or_none (bytes_eq name root)

filter_two : (p q : Entry → Bool) (xs : List Entry) → filter (λ x. p x && q x) xs ≡ filter q (filter p xs)
filter_two p q [] = refl
filter_two p q (x ∷ xs) =
    elim (p x) as (λ a. cond (a && q x) (x ∷ filter (λ x. p x && q x) xs) (filter (λ x. p x && q x) xs) ≡ filter q (cond a (x ∷ filter p xs) (filter p xs))) [
      | true ↦ ap (λ (ys : List Entry). cond (q x) (x ∷ ys) ys) (filter_two p q xs)
      | false ↦ filter_two p q xs
    ]

held_is : (below : Bool) (account : List ℕ) (es : List Entry) → values_of (map (λ (e : Entry). e.1) (filter (λ e. is_of account below e.1.account) es)) ≡ held_in below account (map (λ (e : Entry). e.1) es)
held_is below account [] = refl
held_is below account (e ∷ es) =
    by (is_of account below e.1.account) (held_is below account es)
    ∙ ap (λ (b : Bool). cond b (from_amount (λ a. value_of a ∷ []) e.1.amount) [] ++ held_in below account (map (λ (e : Entry). e.1) es)) (sym (counts_is below account e.1.account))
  where
    by : (b : Bool) → values_of (map (λ (e : Entry). e.1) (filter (λ e. is_of account below e.1.account) es)) ≡ held_in below account (map (λ (e : Entry). e.1) es) →
        values_of (map (λ (e : Entry). e.1) (cond b (e ∷ filter (λ e. is_of account below e.1.account) es) (filter (λ e. is_of account below e.1.account) es))) ≡ cond b (from_amount (λ a. value_of a ∷ []) e.1.amount) [] ++ held_in below account (map (λ (e : Entry). e.1) es)
    by true h = ap (λ (vs : List Value). from_amount (λ a. value_of a ∷ []) e.1.amount ++ vs) h
    by false h = h

-- what an account holds before a place, by the front of the walk that comes before it
pub held_before : (book : List Txn) (walk front : List Entry) (place : Place) (account : List ℕ) (below : Bool) → Reorders (placed_from 0 book) walk → filter (λ (x : Entry). is_before x.0 place) walk ≡ front → Reorders (values_before book account below place) (held_in below account (map (λ (e : Entry). e.1) front))
held_before book walk front place account below r is =
    let of : Entry → Bool = λ e. is_of account below e.1.account in
    let before : Entry → Bool = λ e. is_before e.0 place in
    joined (by_equal (ap (λ (es : List Entry). values_of (map (λ (e : Entry). e.1) es)) (filter_two before of (placed_from 0 book))))
    (joined (spread (λ (p : Posting). from_amount (λ a. value_of a ∷ []) p.amount) (mapped (λ (e : Entry). e.1) (filtered of (filtered before r))))
    (by_equal (ap (λ (es : List Entry). values_of (map (λ (e : Entry). e.1) (filter of es))) is ∙ held_is below account front)))

-- ---- each posting after those before it

abbrev pub EachAfter : (List Posting → Posting → Type 0) → List Posting → List Posting → Type 0
EachAfter P seen [] = Unit {0}
EachAfter P seen (p ∷ ps) = P seen p × EachAfter P (seen ++ p ∷ []) ps

pub each_append : (P : List Posting → Posting → Type 0) (seen ps qs : List Posting) → EachAfter P seen ps → EachAfter P (seen ++ ps) qs → EachAfter P seen (ps ++ qs)
each_append P seen [] qs h k = subst (λ (s : List Posting). EachAfter P s qs) (end seen) k
  where
    end : (seen : List Posting) → seen ++ [] ≡ seen
    end [] = refl
    end (x ∷ xs) = ap (λ ys. x ∷ ys) (end xs)
each_append P seen (p ∷ ps) qs h k = (h.0, each_append P (seen ++ p ∷ []) ps qs h.1 (subst (λ (s : List Posting). EachAfter P s qs) (sym (append_assoc seen (p ∷ []) ps)) k))

pub each_first : (P : List Posting → Posting → Type 0) (seen ps qs : List Posting) → EachAfter P seen (ps ++ qs) → EachAfter P seen ps
each_first P seen [] qs h = tt
each_first P seen (p ∷ ps) qs h = (h.0, each_first P (seen ++ p ∷ []) ps qs h.1)

pub each_second : (P : List Posting → Posting → Type 0) (seen ps qs : List Posting) → EachAfter P seen (ps ++ qs) → EachAfter P (seen ++ ps) qs
each_second P seen [] qs h = subst (λ (s : List Posting). EachAfter P s qs) (sym (end seen)) h
  where
    end : (seen : List Posting) → seen ++ [] ≡ seen
    end [] = refl
    end (x ∷ xs) = ap (λ ys. x ∷ ys) (end xs)
each_second P seen (p ∷ ps) qs h = subst (λ (s : List Posting). EachAfter P s qs) (append_assoc seen (p ∷ []) ps) (each_second P (seen ++ p ∷ []) ps qs h.1)

-- ---- at each place of the walk, and after each front of it

module _ (walk : List Entry) (P : List Posting → Posting → Type 0) (Q : Entry → Type 0) where
  -- where P after each front gives Q at its place
  pub at_places : ((front : List Entry) (e : Entry) (rest : List Entry) → walk ≡ front ++ e ∷ rest → P (map (λ (e : Entry). e.1) front) e.1 → Q e) → (front rest : List Entry) → walk ≡ front ++ rest → EachAfter P (map (λ (e : Entry). e.1) front) (map (λ (e : Entry). e.1) rest) → AllByRecursion Q rest
  at_places f front [] is h = tt
  at_places f front (e ∷ rest) is h = (
    f front e rest is h.0,
    at_places f (front ++ e ∷ []) rest (is ∙ sym (append_assoc front (e ∷ []) rest))
        (subst (λ (s : List Posting). EachAfter P s (map (λ (e : Entry). e.1) rest)) (sym (map-append (λ (e : Entry). e.1) front (e ∷ []))) h.1),
  )

  -- where Q at each place gives P after its front
  pub after_fronts : ((front : List Entry) (e : Entry) (rest : List Entry) → walk ≡ front ++ e ∷ rest → Q e → P (map (λ (e : Entry). e.1) front) e.1) → (front rest : List Entry) → walk ≡ front ++ rest → AllByRecursion Q rest → EachAfter P (map (λ (e : Entry). e.1) front) (map (λ (e : Entry). e.1) rest)
  after_fronts f front [] is h = tt
  after_fronts f front (e ∷ rest) is h = (
    f front e rest is h.0,
    subst (λ (s : List Posting). EachAfter P s (map (λ (e : Entry). e.1) rest)) (map-append (λ (e : Entry). e.1) front (e ∷ []))
        (after_fronts f (front ++ e ∷ []) rest (is ∙ sym (append_assoc front (e ∷ []) rest)) h.1),
  )
