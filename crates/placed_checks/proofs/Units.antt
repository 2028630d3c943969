-- What accounts hold at the places of a transaction, by what they held before it and by the book.
use Rattle.std.proofs.Common.{◌≡◌, ℕ, ℤ, ◌+ℤ◌, Bool, not, List, ◌∷◌, ◌++◌, length, filter, sym, ap, subst, ◌∙◌}
use Rattle.std.specs.List.{AllByRecursion}
use Rattle.std.proofs.lemmas.Grind.{flat_map-append}
use Rattle.hl_num.specs.Decimal.{units_of}
use Rattle.book.specs.Postings.{postings_of}
use Rattle.book.specs.Sums.{sum_of}
use Rattle.book.specs.SumsBefore.{is_of}
use Rattle.book.specs.declared.transaction.Posting.{Posting}
use Rattle.book.specs.declared.transaction.Txn.{Txn}
use Rattle.entry_balance.specs.Tally.{total_of}
use Rattle.balancing.specs.Solves.{HasFew, HaveFew, values_before}
use Rattle.balancing.proofs.SolvingUnits.{sum_at}
use Rattle.entry_check.specs.Checked.{Others, Told, held_after}
use Rattle.placed_checks.specs.Placed.{AreRight}
use Rattle.placed_checks.proofs.Held.{held_units}
use Rattle.placed_checks.proofs.Lists.{all_chosen, all_first, all_rest}
use Rattle.placed_checks.proofs.Own.{IsOnDay, early, is_late, place_at}
use Rattle.placed_checks.proofs.Through.{sum_through}

-- a transaction's own amounts have few decimals where those of its book have
pub own_few : (book front back : List Txn) (t : Txn) → book ≡ front ++ t ∷ back → HaveFew book → AllByRecursion (λ p. HasFew p.amount) t.postings
own_few book front back t is few =
    let P : Posting → Type 0 = λ p. HasFew p.amount in
    let whole : postings_of book ≡ postings_of front ++ (t.postings ++ postings_of back) = ap postings_of is ∙ flat_map-append (λ (u : Txn). u.postings) front (t ∷ back) in
    all_first P t.postings (postings_of back) (all_rest P (postings_of front) (t.postings ++ postings_of back) (subst (AllByRecursion P) whole few))

module _ (told : Told) (others : Others) (book front back : List Txn) (t : Txn) (n : ℕ) (is : book ≡ front ++ t ∷ back) (long : length front ≡ n) (days : AllByRecursion (IsOnDay t) t.postings)
    (few : HaveFew book) (right : AreRight told others book (place_at t n 0)) where
  early_few : (xs ys : List Posting) → t.postings ≡ xs ++ ys → AllByRecursion (λ p. HasFew p.amount) (early t xs)
  early_few xs ys split =
      let P : Posting → Type 0 = λ p. HasFew p.amount in
      all_chosen P (λ p. not (is_late t p)) xs (all_first P xs ys (subst (AllByRecursion P) split (own_few book front back t is few)))

  -- by either sum the account holds the same
  pub same_units : (account symbol : List ℕ) (below : Bool) (xs ys : List Posting) (m : ℕ) → t.postings ≡ xs ++ ys → length xs ≡ m →
      units_of (total_of symbol (values_before book account below (place_at t n m))) ≡ units_of (total_of symbol (held_after told below account symbol (early t xs)))
  same_units account symbol below xs ys m split count =
      let more : ℤ = sum_of symbol (filter (λ p. is_of account below p.account) (early t xs)) in
      sum_at book few account below (place_at t n m) symbol
      ∙ sum_through book front back t n is long days account below symbol m xs ys split count
      ∙ ap (λ (x : ℤ). x +ℤ more) (sym (right.sums below account symbol))
      ∙ sym (held_units symbol account below told (early t xs) (right.few below account symbol) (early_few xs ys split))
