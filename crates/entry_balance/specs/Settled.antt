-- Transactions that are settled one after another.
use Rattle.std.specs.Prelude.{◌≡◌, ◌⊎◌, Bool, true, false, List, [], ◌∷◌, Option, Some}
use Rattle.book.specs.declared.fault.Cause.{Cause}
use Rattle.book.specs.declared.fault.Cause.TheVariants as cause
use Rattle.book.specs.declared.transaction.Txn.{Txn}
use Rattle.entry_balance.specs.Entry.{cause_alone, has_assignment, settled}

-- a transaction with this cause has no sums
abbrev pub lacks_sums : Option Cause → Bool
lacks_sums (Some cause.TwoMissing) = true
lacks_sums (Some cause.NotAllowed) = true
lacks_sums (Some cause.Range) = true
lacks_sums _ = false

-- What became of a written transaction: its cause and its line; with assignments it stays as it is, and else, where it
-- has sums, it is the transaction with what was found.
pub record IsSettled (written : Txn) (txn : Txn) (told : Option Cause) : Type 0 where
  pub cause : told ≡ cause_alone written.postings
  pub line : txn.line ≡ written.line
  pub either : (txn ≡ written) ⊎ (txn ≡ settled written)
  pub kept : has_assignment written.postings ≡ true → txn ≡ written
  pub sums : has_assignment written.postings ≡ false → lacks_sums told ≡ false → txn ≡ settled written

-- the same of each of some transactions
abbrev pub AreSettled : List Txn → List Txn → List (Option Cause) → Type 0
AreSettled [] [] [] = Unit {0}
AreSettled (w ∷ ws) (t ∷ ts) (c ∷ cs) = IsSettled w t c × AreSettled ws ts cs
AreSettled _ _ _ = ⊥
