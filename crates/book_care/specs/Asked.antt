-- What is asked to be closed.
use Rattle.std.specs.Prelude.{ℕ, Bool, not, ◌&&◌, List, map, filter}
use Rattle.std.specs.List.{flat_map, list_any}
use Rattle.std.specs.Str.{bytes_eq}
use Rattle.book.specs.Postings.{postings_of}
use Rattle.book.specs.declared.item.Placed.{Placed}
use Rattle.book.specs.declared.transaction.Posting.{Posting}
use Rattle.book.specs.declared.transaction.Txn.{Txn}
use Rattle.query.specs.Meaning.{of_posting}
pub use Rattle.query.specs.Serving.{Serves}
use Rattle.book_care.specs.declared.close.Closing.{Closing}

-- a posting with its transaction
abbrev pub Entry : Type 0
Entry = Posting × Txn

-- the items of a text and the transactions of its book; which postings a query means; the day of the closing entry, and the
-- account that takes the balances
pub record Asked : Type 0 where
  pub items : List Placed
  pub txns : List Txn
  pub means : Entry → Bool
  pub on : ℕ
  pub into : List ℕ

abbrev pub asked_of : Closing → Asked
asked_of closing = record {
  items = closing.items.now;
  txns = closing.book.now.txns;
  means = λ entry. of_posting closing.query.now closing.types.now entry.0 entry.1;
  on = closing.on.0;
  into = closing.into.now;
}

-- the postings of some transactions, each with its transaction
abbrev pub entries_in : Txn → List Entry
entries_in txn = map (λ posting. (posting, txn)) txn.postings

abbrev pub entries_of : List Txn → List Entry
entries_of txns = flat_map entries_in txns

-- the query means a posting of an account
abbrev pub means_of : Asked → List ℕ → Entry → Bool
means_of asked account entry = asked.means entry && bytes_eq account entry.0.account

abbrev pub is_meant : Asked → List ℕ → Bool
is_meant asked account = list_any (means_of asked account) (entries_of asked.txns)

-- an account is named where the query means one of its postings, and it isn't the one that takes the balances
abbrev pub is_named : Asked → List ℕ → Bool
is_named asked account = not (bytes_eq account asked.into) && is_meant asked account

-- the postings of the named accounts, all of them
abbrev pub named_postings : Asked → List Posting
named_postings asked = filter (λ p. is_named asked p.account) (postings_of asked.txns)
