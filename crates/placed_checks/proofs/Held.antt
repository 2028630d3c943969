-- What an account holds after some postings of a transaction, in units of 10^-36.
use Rattle.std.proofs.Common.{◌≡◌, ℕ, ℤ, pos, ◌-◌, ◌^◌, ◌≤◌, ◌+ℤ◌, ◌*ℤ◌, Bool, true, false, cond, List, [], ◌∷◌, ◌++◌, map, filter, Option, Some, None, refl, sym, ap, ◌∙◌, arith}
use Rattle.std.specs.List.{AllByRecursion, fold}
use Rattle.std.specs.Str.{bytes_eq}
use Rattle.std.proofs.lemmas.Int.{ints}
use Rattle.hl_num.specs.Decimal.{Decimal, units_of}
use Rattle.book.specs.Mixed.{plus}
use Rattle.book.specs.Sums.{share, sum_of}
use Rattle.book.specs.SumsBefore.{is_of}
use Rattle.book.specs.declared.amount.Amount.{Amount}
use Rattle.book.specs.declared.transaction.Posting.{Posting}
use Rattle.entry_balance.specs.Entry.{from_amount}
use Rattle.entry_balance.specs.Tally.{no_sum, numbers_of, total_of}
use Rattle.entry_balance.specs.Values.{Value, trimmed, value_of}
use Rattle.hl_num.proofs.Trimmed.{trimmed-units}
use Rattle.entry_balance.proofs.Turnover.{numbers-here, plus_none}
use Rattle.assertions.specs.Assertions.{held_in}
use Rattle.balancing.specs.Solves.{HasFew}
use Rattle.balancing.proofs.SolvingSeen.{counts_is}
use Rattle.balancing.proofs.SolvingSums.{at-plus}
use Rattle.entry_check.specs.Checked.{Told, held_after}

add_assoc : (x y z : ℤ) → (x +ℤ y) +ℤ z ≡ x +ℤ (y +ℤ z)
add_assoc x y z = omega (arith, ints)

add_none : (x : ℤ) → x ≡ x +ℤ pos 0
add_none x = omega (arith, ints)

none_add : (x : ℤ) → pos 0 +ℤ x ≡ x
none_add x = omega (arith, ints)

by_one : (z : ℤ) → z *ℤ pos (10 ^ (36 - 36)) ≡ z
by_one z = omega (arith, ints)

-- a number with as few decimals as it needs is that number
pub trimmed_is : (z : ℤ) → units_of (trimmed z 36) ≡ z
trimmed_is z = trimmed-units z 36 (omega arith) ∙ by_one z

pub sum_both : (symbol : List ℕ) (xs ys : List Posting) → sum_of symbol (xs ++ ys) ≡ sum_of symbol xs +ℤ sum_of symbol ys
sum_both symbol [] ys = sym (none_add (sum_of symbol ys))
sum_both symbol (x ∷ xs) ys = ap (λ (z : ℤ). share symbol x.amount +ℤ z) (sum_both symbol xs ys) ∙ sym (add_assoc (share symbol x.amount) (sum_of symbol xs) (sum_of symbol ys))

module _ (symbol account : List ℕ) (below : Bool) where
  abbrev of_it : Posting → Bool
  of_it p = is_of account below p.account

  step : (acc : Decimal) (p : Posting) (ps : List Posting) (b : Bool) (o : Option Amount) → p.amount ≡ o → acc.places ≤ 36 → HasFew o →
      ((acc : Decimal) → acc.places ≤ 36 → units_of (fold plus acc (numbers_of symbol (held_in below account ps))) ≡ units_of acc +ℤ sum_of symbol (filter of_it ps)) →
      units_of (fold plus acc (numbers_of symbol (cond b (from_amount (λ a. value_of a ∷ []) o) [] ++ held_in below account ps))) ≡ units_of acc +ℤ sum_of symbol (cond b (p ∷ filter of_it ps) (filter of_it ps))
  step acc p ps false o is few h rest = rest acc few
  step acc p ps true None is few h rest =
      rest acc few ∙ ap (λ (x : ℤ). units_of acc +ℤ x) (sym (none_add (sum_of symbol (filter of_it ps))))
      ∙ ap (λ (o : Option Amount). units_of acc +ℤ (share symbol o +ℤ sum_of symbol (filter of_it ps))) (sym is)
  step acc p ps true (Some a) is few h rest =
      let numbers : List Value = filter (λ (v : Value). bytes_eq v.0 symbol) (held_in below account ps) in
      (elim (bytes_eq a.symbol symbol) as (λ b. units_of (fold plus acc (map (λ (v : Value). v.1) (cond b (value_of a ∷ numbers) numbers))) ≡ units_of acc +ℤ (cond b (units_of a.value) (pos 0) +ℤ sum_of symbol (filter of_it ps))) [
        | true ↦ rest (plus acc a.value) (omega (arith, few, h)) ∙ ap (λ (x : ℤ). x +ℤ sum_of symbol (filter of_it ps)) (at-plus acc a.value 36 few h) ∙ add_assoc (units_of acc) (units_of a.value) (sum_of symbol (filter of_it ps))
        | false ↦ rest acc few ∙ ap (λ (x : ℤ). units_of acc +ℤ x) (sym (none_add (sum_of symbol (filter of_it ps))))
      ])
      ∙ ap (λ (o : Option Amount). units_of acc +ℤ (share symbol o +ℤ sum_of symbol (filter of_it ps))) (sym is)

  -- their amounts, over what is there already
  held_more : (ps : List Posting) → AllByRecursion (λ p. HasFew p.amount) ps → (acc : Decimal) → acc.places ≤ 36 → units_of (fold plus acc (numbers_of symbol (held_in below account ps))) ≡ units_of acc +ℤ sum_of symbol (filter of_it ps)
  held_more [] all acc few = add_none (units_of acc)
  held_more (p ∷ ps) all acc few =
      ap (λ (b : Bool). units_of (fold plus acc (numbers_of symbol (cond b (from_amount (λ a. value_of a ∷ []) p.amount) [] ++ held_in below account ps)))) (counts_is below account p.account)
      ∙ step acc p ps (is_of account below p.account) p.amount refl few all.0 (held_more ps all.1)

  -- what it held before, and their amounts
  pub held_units : (told : Told) (ps : List Posting) → (told below account symbol).places ≤ 36 → AllByRecursion (λ p. HasFew p.amount) ps → units_of (total_of symbol (held_after told below account symbol ps)) ≡ units_of (told below account symbol) +ℤ sum_of symbol (filter of_it ps)
  held_units told ps few all =
      let before = told below account symbol in
      ap (λ (ds : List Decimal). units_of (fold plus no_sum ds)) (numbers-here symbol before (held_in below account ps))
      ∙ ap (λ (d : Decimal). units_of (fold plus d (numbers_of symbol (held_in below account ps)))) (plus_none before)
      ∙ held_more ps all before few
