-- What accounts hold after the closing entry, and after both entries.
use Rattle.std.specs.Prelude.{◌≡◌, ℕ, ℤ, pos, true, List, [], ◌∷◌, ◌++◌, Option, MatchOption}
use Rattle.book.specs.Postings.{postings_of}
use Rattle.book.specs.Sums.{of_account, sum_of}
use Rattle.book.specs.declared.transaction.Txn.{Txn}
use Rattle.book_care.specs.Asked.{Asked, is_named}

-- the plain sum of an account in a symbol over all postings of some transactions
abbrev pub balance : List ℕ → List ℕ → List Txn → ℤ
balance account symbol txns = sum_of symbol (of_account account (postings_of txns))

-- after some transactions each named account's balance is zero in every symbol
abbrev pub AreEmpty : Asked → List Txn → Type 0
AreEmpty asked txns =
    (account symbol : List ℕ) → is_named asked account ≡ true → balance account symbol txns ≡ pos 0

-- some transactions leave every account's balance as it is
abbrev pub IsKept : List Txn → List Txn → Type 0
IsKept txns more =
    (account symbol : List ℕ) → balance account symbol (txns ++ more) ≡ balance account symbol txns

-- the amounts of a transaction sum to zero in every symbol
abbrev pub IsEven : Txn → Type 0
IsEven txn = (symbol : List ℕ) → sum_of symbol txn.postings ≡ pos 0

-- What a closing and an opening entry do: the first empties the named accounts, both leave every balance as it is, and
-- the amounts of each sum to zero.
pub record Close (asked : Asked) (entries : Txn × Txn) : Type 0 where
  pub emptied : AreEmpty asked (asked.txns ++ entries.0 ∷ [])
  pub restored : IsKept asked.txns (entries.0 ∷ entries.1 ∷ [])
  pub even_closing : IsEven entries.0
  pub even_opening : IsEven entries.1

-- they do so, or where there are none the named accounts are empty
abbrev pub Settles : Asked → Option (Txn × Txn) → Type 0
Settles asked entries = MatchOption entries (AreEmpty asked asked.txns) (Close asked)
