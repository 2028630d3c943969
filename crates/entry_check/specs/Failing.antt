-- Assertions of one transaction that are judged one after another.
use Rattle.std.specs.Prelude.{◌≡◌, ℕ, Bool, take, drop, filter, List, [], ◌∷◌, ◌++◌, Option, Some, None, if◌then◌else◌}
use Rattle.std.specs.Option.{option_map}
use Rattle.hl_num.specs.Decimal.{Decimal}
use Rattle.book.specs.declared.amount.Assertion.{Assertion}
use Rattle.book.specs.declared.fault.Fault.{Fault}
use Rattle.book.specs.declared.transaction.Posting.{Posting}
use Rattle.entry_balance.specs.Values.{Value}
use Rattle.assertions.specs.Assertions.{is_same}
use Rattle.assertions.specs.Kept.{Keeping, IsBalance}
use Rattle.entry_check.specs.Checked.{Told, Others, failure_after, first_failing}

-- what is found in place of what is wanted, where an account holds a sum in the wanted symbol
abbrev pub found_beside : Told → Others → Assertion → List ℕ → Decimal → Option Value
found_beside told others w account total =
    if is_same total w.amount.value
    then (if w.only then option_map (λ s. (s, told w.below account s)) (others w.below account w.amount.symbol) else None)
    else Some (w.amount.symbol, total)

-- The fault of a posting's assertion after others; the posting is among the balances.
pub record IsJudged (told : Told) (others : Others) (done : List Posting) (p : Posting) (own below : Keeping) (fault : Option Fault) : Type 0 where
  pub is : fault ≡ failure_after told others (done ++ p ∷ []) p p.wanted
  pub kept : IsBalance (done ++ p ∷ []) own below

-- The fault of the first assertion of some postings that fails; without one the postings are among the balances.
pub record AreJudged (told : Told) (others : Others) (done ps : List Posting) (own below : Keeping) (fault : Option Fault) : Type 0 where
  pub is : fault ≡ first_failing told others done ps
  pub kept : fault ≡ None → IsBalance (done ++ ps) own below

-- What is known after the chosen ones of some first postings: none of their assertions fails, and they are among the
-- balances.
pub record IsPast (told : Told) (others : Others) (done : List Posting) (chosen : Posting → Bool) (ps : List Posting) (n : ℕ) (own below : Keeping) : Type 0 where
  pub rest : first_failing told others done (filter chosen ps) ≡ first_failing told others (done ++ filter chosen (take n ps)) (filter chosen (drop n ps))
  pub kept : IsBalance (done ++ filter chosen (take n ps)) own below
