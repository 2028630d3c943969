-- Transactions that are put back as they were written.
use Rattle.std.specs.Prelude.{◌≡◌, List, [], ◌∷◌, slice_set, Option}
use Rattle.book.specs.declared.fault.Cause.{Cause}
use Rattle.book.specs.declared.transaction.Txn.{Txn}
use Rattle.balancing.specs.declared.written.Written.{Written}

-- some transactions with those that are kept put back, the last one first
abbrev pub txns_back : List Written → List Txn → List Txn
txns_back [] txns = txns
txns_back (w ∷ ws) txns = slice_set (txns_back ws txns) w.number w.txn

-- the same of what is wrong with each
abbrev pub causes_back : List Written → List (Option Cause) → List (Option Cause)
causes_back [] causes = causes
causes_back (w ∷ ws) causes = slice_set (causes_back ws causes) w.number w.cause

-- What is kept leads back to the same as before.
pub record IsKept (old : List Written) (txns : List Txn) (causes : List (Option Cause)) (new : List Written) (txns' : List Txn) (causes' : List (Option Cause)) : Type 0 where
  pub txns_stay : txns_back new txns' ≡ txns_back old txns
  pub causes_stay : causes_back new causes' ≡ causes_back old causes
