-- What is known after postings whose assertions were judged.
use Rattle.std.specs.Prelude.{◌≡◌, ℕ, Bool, take, drop, filter, List, ◌++◌, Option, None}
use Rattle.book.specs.declared.fault.Fault.{Fault}
use Rattle.book.specs.declared.transaction.Posting.{Posting}
use Rattle.assertions.specs.Assertions.{first_failure}
use Rattle.assertions.specs.Kept.{Keeping, IsBalance}

-- The fault of the first assertion of some postings that fails; without one the postings are among the balances.
pub record AreClaimed (seen ps : List Posting) (own below : Keeping) (fault : Option Fault) : Type 0 where
  pub is : fault ≡ first_failure seen ps
  pub kept : fault ≡ None → IsBalance (seen ++ ps) own below

-- What is known after the chosen ones of some first postings: none of their assertions fails, and they are among the
-- balances.
pub record IsReached (seen : List Posting) (chosen : Posting → Bool) (ps : List Posting) (n : ℕ) (own below : Keeping) : Type 0 where
  pub rest : first_failure seen (filter chosen ps) ≡ first_failure (seen ++ filter chosen (take n ps)) (filter chosen (drop n ps))
  pub kept : IsBalance (seen ++ filter chosen (take n ps)) own below
