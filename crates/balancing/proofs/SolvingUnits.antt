-- Sums at a place in units of 10^-36.
use Rattle.std.proofs.Common.{◌≡◌, ℕ, ℤ, pos, zero, suc, ◌-◌, ◌*◌, ◌^◌, ◌<◌, ◌≤◌, ◌+ℤ◌, unsigned_abs, Bool, true, false, cond, not, ◌&&◌, eqb, List, [], ◌∷◌, ◌++◌, map, filter, Option, Some, None, refl, sym, ap, ◌∙◌, subst, arith}
use Rattle.std.specs.List.{fold, flat_map, find, AllByRecursion}
use Rattle.std.specs.Option.{option_map}
use Rattle.std.specs.Ordering.{nat_cmp}
use Rattle.std.specs.Cmp.Lexicographic.{slice_cmp}
use Rattle.std.specs.Str.{bytes_eq}
use Rattle.std.proofs.lemmas.Bool.Decides.{nat_tests}
use Rattle.std.proofs.lemmas.Int.{ints, unsigned_abs-mul}
use Rattle.hl_num.specs.Decimal.{Decimal, units_of}
use Rattle.hl_num.proofs.RoundingLemmas.{pow_ten_positive}
use Rattle.book.specs.declared.amount.Amount.{Amount}
use Rattle.book.specs.declared.transaction.Posting.{Posting}
use Rattle.book.specs.declared.transaction.Txn.{Txn}
use Rattle.book.specs.Mixed.{plus}
use Rattle.book.specs.Order.{each_once}
use Rattle.book.specs.Postings.{postings_of}
use Rattle.book.specs.Sums.{share, sum_of, symbol_in, symbols_of, is_nonzero}
use Rattle.book.specs.SumsBefore.{Place, is_before, is_of, placed_from, postings_before, sum_before, other_before}
use Rattle.entry_balance.specs.Values.{Value, value_of}
use Rattle.entry_balance.specs.Tally.{numbers_of, no_sum, total_of, sums_of}
use Rattle.entry_balance.specs.Entry.{from_amount, is_nothing}
use Rattle.assertions.specs.Assertions.{is_other, first_of}
use Rattle.balancing.specs.Solves.{values_of, values_before, HasFew}
use Rattle.balancing.proofs.SolvingSums.{at-plus}
use Rattle.balancing.proofs.SolvingWalk.{Entry}
use Rattle.balancing.proofs.SolvingBook.{text_names}

add_assoc : (x y z : ℤ) → (x +ℤ y) +ℤ z ≡ x +ℤ (y +ℤ z)
add_assoc x y z = omega (arith, ints)

add_none : (x : ℤ) → x ≡ x +ℤ pos 0
add_none x = omega (arith, ints)

none_add : (x : ℤ) → pos 0 +ℤ x ≡ x
none_add x = omega (arith, ints)

one_more : (symbol : List ℕ) (acc : Decimal) (ps : List Posting) (o : Option Amount) → acc.places ≤ 36 → HasFew o →
    ((acc : Decimal) → acc.places ≤ 36 → units_of (fold plus acc (numbers_of symbol (values_of ps))) ≡ units_of acc +ℤ sum_of symbol ps) →
    units_of (fold plus acc (numbers_of symbol (from_amount (λ a. value_of a ∷ []) o ++ values_of ps))) ≡ units_of acc +ℤ (share symbol o +ℤ sum_of symbol ps)
one_more symbol acc ps None few h rest = rest acc few ∙ ap (λ (x : ℤ). units_of acc +ℤ x) (sym (none_add (sum_of symbol ps)))
one_more symbol acc ps (Some a) few h rest =
    elim (bytes_eq a.symbol symbol) as (λ b. units_of (fold plus acc (map (λ (v : Value). v.1) (cond b (value_of a ∷ filter (λ (v : Value). bytes_eq v.0 symbol) (values_of ps)) (filter (λ (v : Value). bytes_eq v.0 symbol) (values_of ps))))) ≡ units_of acc +ℤ (cond b (units_of a.value) (pos 0) +ℤ sum_of symbol ps)) [
      | true ↦ rest (plus acc a.value) (omega (arith, h)) ∙ ap (λ (x : ℤ). x +ℤ sum_of symbol ps) (at-plus acc a.value 36 few h) ∙ add_assoc (units_of acc) (units_of a.value) (sum_of symbol ps)
      | false ↦ rest acc few ∙ ap (λ (x : ℤ). units_of acc +ℤ x) (sym (none_add (sum_of symbol ps)))
    ]

-- the units of a sum, over what is there already
sum_more : (symbol : List ℕ) (ps : List Posting) → AllByRecursion (λ p. HasFew p.amount) ps → (acc : Decimal) → acc.places ≤ 36 → units_of (fold plus acc (numbers_of symbol (values_of ps))) ≡ units_of acc +ℤ sum_of symbol ps
sum_more symbol [] all acc few = add_none (units_of acc)
sum_more symbol (p ∷ ps) all acc few = one_more symbol acc ps p.amount few all.0 (sum_more symbol ps all.1)

no_units : units_of no_sum ≡ pos 0
no_units = omega (arith, ints)

total_units : (symbol : List ℕ) (ps : List Posting) → AllByRecursion (λ p. HasFew p.amount) ps → units_of (total_of symbol (values_of ps)) ≡ sum_of symbol ps
total_units symbol ps all = sum_more symbol ps all no_sum (omega arith) ∙ ap (λ (x : ℤ). x +ℤ sum_of symbol ps) no_units ∙ none_add (sum_of symbol ps)

chosen_few : (p : Entry → Bool) (es : List Entry) → AllByRecursion (λ p. HasFew p.amount) (map (λ (e : Entry). e.1) es) → AllByRecursion (λ p. HasFew p.amount) (map (λ (e : Entry). e.1) (filter p es))
chosen_few p [] h = tt
chosen_few p (e ∷ es) h =
    let rest = chosen_few p es h.1 in
    elim (p e) as (λ b. AllByRecursion (λ p. HasFew p.amount) (map (λ (e : Entry). e.1) (cond b (e ∷ filter p es) (filter p es)))) [ true ↦ (h.0, rest) | false ↦ rest ]

module _ (book : List Txn) (few : AllByRecursion (λ p. HasFew p.amount) (postings_of book)) (account : List ℕ) (below : Bool) (place : Place) where
  abbrev those : List Posting
  those = postings_before book account below place

  those_few : AllByRecursion (λ p. HasFew p.amount) those
  those_few = chosen_few (λ e. is_before e.0 place && is_of account below e.1.account) (placed_from 0 book) (subst (AllByRecursion (λ p. HasFew p.amount)) (sym (text_names 0 book)) few)

  -- the sum at a place, in units
  pub sum_at : (symbol : List ℕ) → units_of (total_of symbol (values_before book account below place)) ≡ sum_before book account symbol below place
  sum_at symbol = total_units symbol those those_few

-- ---- another sum that isn't zero

same_symbols : (ps : List Posting) → map (λ (v : Value). v.0) (values_of ps) ≡ flat_map (λ p. symbol_in p.amount) ps
same_symbols [] = refl
same_symbols (p ∷ ps) = by p.amount (same_symbols ps)
  where
    by : (o : Option Amount) → map (λ (v : Value). v.0) (values_of ps) ≡ flat_map (λ p. symbol_in p.amount) ps → map (λ (v : Value). v.0) (from_amount (λ a. value_of a ∷ []) o ++ values_of ps) ≡ symbol_in o ++ flat_map (λ p. symbol_in p.amount) ps
    by None e = e
    by (Some a) e = ap (λ (xs : List (List ℕ)). a.symbol ∷ xs) e

times_none : (m s : ℕ) → 0 < s → eqb (m * s) 0 ≡ eqb m 0
times_none zero s h = let none : zero * s ≡ 0 = omega arith in ap (λ (n : ℕ). eqb n 0) none
times_none (suc m) s h = let some : 0 < suc m * s = omega (arith, h) in equal_false_up (suc m * s) 0 some ∙ sym (equal_false_up (suc m) 0 (omega arith))
  where
    equal_false_up : (a b : ℕ) → b < a → eqb a b ≡ false
    equal_false_up a b h = grind (arith, nat_tests)

nothing_units : (d : Decimal) → is_nothing d ≡ eqb (unsigned_abs (units_of d)) 0
nothing_units d =
    sym (times_none (unsigned_abs d.mantissa) (10 ^ (36 - d.places)) (pow_ten_positive (36 - d.places)))
    ∙ ap (λ (n : ℕ). eqb n 0) (sym (unsigned_abs-mul d.mantissa (pos (10 ^ (36 - d.places)))))

abbrev is_another : List ℕ → List ℕ × ℤ → Bool
is_another symbol sum = not (bytes_eq sum.0 symbol)

abbrev others : (List ℕ → ℤ) → List (List ℕ) → List (List ℕ × ℤ)
others g ks = filter (λ (sum : List ℕ × ℤ). is_nonzero sum.1) (map (λ s. (s, g s)) ks)

abbrev beside : List ℕ → (List ℕ → Decimal) → List (List ℕ) → List Value
beside symbol f ks = filter (is_other symbol) (map (λ s. (s, f s)) ks)

abbrev name_of : {X : Type 0} → Option (List ℕ × X) → Option (List ℕ)
name_of o = option_map (λ sum. sum.0) o

one_other : (symbol k : List ℕ) (x : Value) (y : List ℕ × ℤ) (L : List Value) (R : List (List ℕ × ℤ)) (a n : Bool) → x.0 ≡ k → y.0 ≡ k → bytes_eq y.0 symbol ≡ a → name_of (first_of L) ≡ name_of (find (is_another symbol) R) →
    name_of (first_of (cond (not a && not n) (x ∷ L) L)) ≡ name_of (find (is_another symbol) (cond (not n) (y ∷ R) R))
one_other symbol k x y L R true true ex ey e h = h
one_other symbol k x y L R false true ex ey e h = h
one_other symbol k x y L R true false ex ey e h = h ∙ ap (λ b. name_of (cond (not b) (Some y) (find (is_another symbol) R))) (sym e)
one_other symbol k x y L R false false ex ey e h = ap Some (ex ∙ sym ey) ∙ ap (λ b. name_of (cond (not b) (Some y) (find (is_another symbol) R))) (sym e)

first_other : (symbol : List ℕ) (f : List ℕ → Decimal) (g : List ℕ → ℤ) → ((s : List ℕ) → is_nothing (f s) ≡ eqb (unsigned_abs (g s)) 0) → (ks : List (List ℕ)) → name_of (first_of (beside symbol f ks)) ≡ name_of (find (is_another symbol) (others g ks))
first_other symbol f g h [] = refl
first_other symbol f g h (k ∷ ks) =
    ap (λ n. name_of (first_of (cond (not (bytes_eq k symbol) && not n) ((k, f k) ∷ beside symbol f ks) (beside symbol f ks)))) (h k)
    ∙ one_other symbol k (k, f k) (k, g k) (beside symbol f ks) (others g ks) (bytes_eq k symbol) (eqb (unsigned_abs (g k)) 0) refl refl refl (first_other symbol f g h ks)

module _ (book : List Txn) (few : AllByRecursion (λ p. HasFew p.amount) (postings_of book)) (account : List ℕ) (below : Bool) (place : Place) where
  -- the least other symbol whose sum isn't zero
  pub other_at : (symbol : List ℕ) → name_of (first_of (filter (is_other symbol) (sums_of (values_before book account below place)))) ≡ other_before book account symbol below place
  other_at symbol =
      let ps = postings_before book account below place in
      let values = values_before book account below place in
      let alike : (s : List ℕ) → is_nothing (total_of s values) ≡ eqb (unsigned_abs (sum_of s ps)) 0 = λ s. nothing_units (total_of s values) ∙ ap (λ (z : ℤ). eqb (unsigned_abs z) 0) (sum_at book few account below place s) in
      ap (λ ks. name_of (first_of (beside symbol (λ s. total_of s values) (each_once (slice_cmp nat_cmp) ks)))) (same_symbols ps)
      ∙ first_other symbol (λ s. total_of s values) (λ s. sum_of s ps) alike (symbols_of ps)
