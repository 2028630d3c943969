-- What is known after a posting whose assertion was judged.
use Rattle.std.specs.Prelude.{◌≡◌, List, [], ◌∷◌, ◌++◌, Option}
use Rattle.book.specs.declared.fault.Fault.{Fault}
use Rattle.book.specs.declared.transaction.Posting.{Posting}
use Rattle.assertions.specs.Assertions.{failure_of}
use Rattle.assertions.specs.Kept.{Keeping, IsBalance}

-- The fault of a posting's assertion after others; the posting is among the balances.
pub record IsClaimed (seen : List Posting) (p : Posting) (own below : Keeping) (fault : Option Fault) : Type 0 where
  pub is : fault ≡ failure_of (seen ++ p ∷ []) p p.wanted
  pub kept : IsBalance (seen ++ p ∷ []) own below
