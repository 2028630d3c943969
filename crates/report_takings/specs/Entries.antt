-- Postings with their transactions.
use Rattle.std.specs.Prelude.{ℕ, List, map}
use Rattle.std.specs.List.{flat_map}
use Rattle.book.specs.declared.transaction.Posting.{Posting}
use Rattle.book.specs.declared.transaction.Txn.{Txn}
use Rattle.query.specs.Matching.{day_of}

abbrev pub Entry : Type 0
Entry = Posting × Txn

-- the postings of a transaction, each with it
abbrev pub entries_in : Txn → List Entry
entries_in txn = map (λ posting. (posting, txn)) txn.postings

-- the postings of some transactions, in order, each with its transaction
abbrev pub entries_of : List Txn → List Entry
entries_of txns = flat_map entries_in txns

-- the day of a posting: its own, else that of its transaction
abbrev pub day_in : Entry → ℕ
day_in entry = day_of entry.0 entry.1
