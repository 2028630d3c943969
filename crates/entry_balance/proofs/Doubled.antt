-- What a pair moves is within the bound where twice its amount is.
use Rattle.std.proofs.Common.{◌≡◌, ℕ, ℤ, pos, neg_ℤ, ◌^◌, ◌<◌, ◌≤◌, Bool, true, false, ◌&&◌, List, [], ◌∷◌, ◌++◌, unsigned_abs, Option, Some, None, refl, sym, ap, ◌∙◌, arith}
use Rattle.std.proofs.lemmas.Bool.{false≢true}
use Rattle.std.proofs.lemmas.Bool.Decides.{Decides-ltb}
use Rattle.std.proofs.lemmas.Int.{ints}
use Rattle.hl_num.specs.Decimal.{Decimal, negated, add_fits}
use Rattle.book.specs.Entries.{held}
use Rattle.book.specs.Mixed.{plus, fits_with}
use Rattle.book.specs.declared.amount.Amount.{Amount}
use Rattle.book.specs.declared.amount.Cost.{Cost}
use Rattle.book.specs.declared.transaction.Posting.{Posting}
use Rattle.entry_balance.specs.Values.{Value, value_of, cost_values, absolute}
use Rattle.entry_balance.specs.Tally.{is_within, are_within, turnover_fits, added_to}
use Rattle.entry_balance.specs.Turnover.{IsTurnover}
use Rattle.entry_balance.specs.Entry.{from_amount, moved, moved_by, solved}
use Rattle.entry_balance.specs.Pair.{gives, takes, is_given, is_pair, opposite, with_amount, moves_of, moves_first}
use Rattle.entry_balance.proofs.Adding.{moved_more, moved_range, turnover_none, turnover_within}
use Rattle.entry_balance.proofs.Only.{held_same, same_only}
use Rattle.entry_balance.proofs.Pairs.{given, no_cost, solved_by}
use Rattle.entry_balance.proofs.Turnover.{bytes_eq-itself}

abs_neg : (m : ℤ) → unsigned_abs m ≡ unsigned_abs (neg_ℤ m)
abs_neg m = omega (arith, ints)

and_true : (b : Bool) → b ≡ true → (b && true) ≡ true
and_true b h = ap (λ (c : Bool). c && true) h

module _ (s : List ℕ) (v : Decimal) (few : v.places ≤ 36) (small : unsigned_abs v.mantissa < 2 ^ 127) where
  abbrev once : List Value
  once = (s, absolute v) ∷ []

  same : absolute v ≡ absolute (negated v)
  same = ap (λ (n : ℕ). record { mantissa = pos n; places = v.places }) (abs_neg v.mantissa)

  one_within : are_within once ≡ true
  one_within = and_true (is_within (absolute v)) ((Decides-ltb _ _).1 small)

  first : IsTurnover ((s, v) ∷ []) once
  first = moved_more [] s v [] once few (λ none. one_within) refl turnover_none

  twice : (s, plus (absolute v) (absolute v)) ∷ [] ≡ added_to once s (absolute (negated v))
  twice = same_only s s (absolute v) (absolute v) (bytes_eq-itself s) ∙ ap (added_to once s) same

  pub doubled_fits : is_within (plus (absolute v) (absolute v)) ≡ true → true ≡ turnover_fits ((s, v) ∷ (s, negated v) ∷ [])
  doubled_fits within =
      let all : IsTurnover ((s, v) ∷ (s, negated v) ∷ []) ((s, plus (absolute v) (absolute v)) ∷ []) =
      moved_more ((s, v) ∷ []) s (negated v) once ((s, plus (absolute v) (absolute v)) ∷ []) few (λ one. and_true (is_within (plus (absolute v) (absolute v))) within) twice first in
      sym (turnover_within ((s, v) ∷ (s, negated v) ∷ []) ((s, plus (absolute v) (absolute v)) ∷ []) all)

  pub doubled_over : fits_with (Some (absolute v)) (absolute v) ≡ false → false ≡ turnover_fits ((s, v) ∷ (s, negated v) ∷ [])
  doubled_over over =
      let differs : fits_with (held s once) (absolute (negated v)) ≡ false =
      ap (λ (o : Option Decimal). fits_with o (absolute (negated v))) (held_same s s (absolute v) (bytes_eq-itself s)) ∙ ap (add_fits (absolute v)) (sym same) ∙ over in
      sym (moved_range ((s, v) ∷ []) s (negated v) once first differs)

module _ (a b : Posting) (h : (gives a && takes b) ≡ true) where
  moves_by : (o : Option Amount) → a.amount ≡ o → is_given o ≡ true → moved (solved (a ∷ b ∷ [])) ≡ moves_of o
  moves_by None e is = absurd (false≢true is)
  moves_by (Some x) e is =
      ap moved (solved_by a b h (Some x) e is)
      ∙ ap (λ (o : Option Amount). from_amount (λ (y : Amount). value_of y ∷ cost_values y a.cost) o ++ (moved_by (with_amount b (opposite o)) ++ [])) e
      ∙ ap (λ (c : Option Cost). (value_of x ∷ cost_values x c) ++ (moved_by (with_amount b (opposite (Some x))) ++ [])) (no_cost a b h)

-- what a pair moves, by its first posting
pub pair_moves : (ps : List Posting) → is_pair ps ≡ true → moved (solved ps) ≡ moves_first ps
pair_moves [] h = absurd (false≢true h)
pair_moves (a ∷ []) h = absurd (false≢true h)
pair_moves (a ∷ b ∷ []) h = moves_by a b h a.amount refl (given a b h)
pair_moves (a ∷ b ∷ c ∷ ps) h = absurd (false≢true h)
