-- Transactions, each after the one above it.
use Rattle.std.proofs.Common.{◌≡◌, ℕ, ◌+◌, ◌-◌, ◌<◌, ◌≤◌, true, false, cond, List, [], ◌∷◌, length, get_or, drop, Some, None, refl, sym, ap, ◌∙◌, arith, length-drop}
use Rattle.book.specs.declared.transaction.Txn.{Txn}
use Rattle.query_terms.proofs.Walks.{left_here}
use Rattle.book_care.specs.Breaks.{is_early, first_early}

module _ (txns : List Txn) (at : ℕ) (above txn : Txn) (some : 1 ≤ at) (within : at < length txns) (over : above ≡ get_or txns (at - 1) above) (under : txn ≡ get_or txns at txn) where
  two_left : drop (at - 1) txns ≡ above ∷ drop at txns
  two_left =
      let next : at - 1 + 1 ≡ at = omega arith in
      let less : at - 1 < length txns = omega arith in
      left_here txns (at - 1) above less over ∙ ap (λ n. above ∷ drop n txns) next

  -- the first two of what is left
  early_step : first_early (drop (at - 1) txns) ≡ cond (is_early (above, txn)) (Some (above, txn)) (first_early (drop at txns))
  early_step =
      let rest = left_here txns at txn within under in
      ap first_early (two_left ∙ ap (λ l. above ∷ l) rest)
      ∙ ap (λ l. cond (is_early (above, txn)) (Some (above, txn)) (first_early l)) (sym rest)

  pub early_here : is_early (above, txn) ≡ true → first_early (drop (at - 1) txns) ≡ Some (above, txn)
  early_here t = early_step ∙ ap (λ b. cond b (Some (above, txn)) (first_early (drop at txns))) t

  pub early_more : is_early (above, txn) ≡ false → first_early (drop (at - 1) txns) ≡ first_early (drop at txns)
  early_more t = early_step ∙ ap (λ b. cond b (Some (above, txn)) (first_early (drop at txns))) t

one_left : (txns : List Txn) → length txns ≤ 1 → first_early txns ≡ None
one_left [] le = refl
one_left (t ∷ []) le = refl
one_left (t ∷ u ∷ txns) le = absurd (omega (arith, le))

pub early_none : (txns : List Txn) (at : ℕ) → length txns ≤ at → first_early (drop (at - 1) txns) ≡ None
early_none txns at le =
    let few : length (drop (at - 1) txns) ≤ 1 = omega (arith, length-drop (at - 1) txns) in
    one_left (drop (at - 1) txns) few
