-- The first posting by place, gathered from the last posting on.
use Rattle.std.proofs.Common.{◌≡◌, ℕ, suc, ◌+◌, ◌<◌, ◌≤◌, true, false, cond, List, [], ◌∷◌, ◌++◌, length, get_or, drop, filter, Option, Some, None, refl, sym, ap, ◌∙◌, arith}
use Rattle.std.proofs.lemmas.List.{drop_all}
use Rattle.book.specs.SumsBefore.{placed_in, placed_from}
use Rattle.book.specs.declared.transaction.Posting.{Posting}
use Rattle.book.specs.declared.transaction.Txn.{Txn}
use Rattle.query_terms.proofs.Walks.{left_here}
use Rattle.book_care.specs.Late.{At, is_late, sooner, first_placed, first_late, with_late, at_place, gathered}

gathered-append : (on : ℕ) (xs ys : List At) (least : Option At) → gathered on (xs ++ ys) least ≡ gathered on xs (gathered on ys least)
gathered-append on [] ys least = refl
gathered-append on (x ∷ xs) ys least = ap (with_late on x) (gathered-append on xs ys least)

-- what is gathered is the first by place
gathered-is : (on : ℕ) (ats : List At) → gathered on ats None ≡ first_placed (filter (is_late on) ats)
gathered-is on [] = refl
gathered-is on (x ∷ ats) =
    ap (with_late on x) (gathered-is on ats)
    ∙ elim (is_late on x) as (λ b. cond b (Some (sooner x (first_placed (filter (is_late on) ats)))) (first_placed (filter (is_late on) ats)) ≡ first_placed (cond b (x ∷ filter (is_late on) ats) (filter (is_late on) ats))) [
      | true ↦ refl
      | false ↦ refl
    ]

pub late_is : (on : ℕ) (txns : List Txn) → gathered on (placed_from 0 txns) None ≡ first_late on txns
late_is on txns = gathered-is on (placed_from 0 txns)

module _ (on number n k : ℕ) (txn : Txn) (ps : List Posting) (other : Option At) where
  pub posting_more : (p : Posting) (least : Option At) → n ≡ k + 1 → k < length ps → p ≡ get_or ps k p → least ≡ gathered on (placed_in txn number n (drop n ps)) other → with_late on (at_place number txn k p) least ≡ gathered on (placed_in txn number k (drop k ps)) other
  posting_more p least next lt is e =
      let after : n ≡ suc k = omega (arith, next) in
      ap (with_late on (at_place number txn k p)) (e ∙ ap (λ m. gathered on (placed_in txn number m (drop n ps)) other) after ∙ ap (λ m. gathered on (placed_in txn number (suc k) (drop m ps)) other) next)
      ∙ ap (λ l. gathered on (placed_in txn number k l) other) (sym (left_here ps k p lt is))

  pub posting_start : n ≡ length ps → other ≡ gathered on (placed_in txn number n (drop n ps)) other
  posting_start is =
      let le : length ps ≤ n = omega (arith, is) in
      ap (λ l. gathered on (placed_in txn number n l) other) (sym (drop_all n ps le))

module _ (on n k : ℕ) (txns : List Txn) where
  pub txn_more : (t : Txn) (least next : Option At) → n ≡ k + 1 → k < length txns → t ≡ get_or txns k t → least ≡ gathered on (placed_from n (drop n txns)) None → next ≡ gathered on (placed_in t k 0 t.postings) least → next ≡ gathered on (placed_from k (drop k txns)) None
  txn_more t least next step lt is e h =
      let after : n ≡ suc k = omega (arith, step) in
      h
      ∙ ap (gathered on (placed_in t k 0 t.postings)) (e ∙ ap (λ m. gathered on (placed_from m (drop n txns)) None) after ∙ ap (λ m. gathered on (placed_from (suc k) (drop m txns)) None) step)
      ∙ sym (gathered-append on (placed_in t k 0 t.postings) (placed_from (suc k) (drop (k + 1) txns)) None)
      ∙ ap (λ l. gathered on (placed_from k l) None) (sym (left_here txns k t lt is))

  pub txn_start : n ≡ length txns → None ≡ gathered on (placed_from n (drop n txns)) None
  txn_start is =
      let le : length txns ≤ n = omega (arith, is) in
      ap (λ l. gathered on (placed_from n l) None) (sym (drop_all n txns le))
