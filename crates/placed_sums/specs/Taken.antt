-- The rows that take a transaction off.
use Rattle.std.specs.Prelude.{List, [], ◌∷◌}
use Rattle.std.specs.List.{flat_map}
use Rattle.book.specs.declared.transaction.Posting.{Posting}
use Rattle.book.specs.declared.transaction.Txn.{Txn}
use Rattle.entry_balance.specs.Entry.{from_amount}
use Rattle.live_index.specs.Net.{negated_row}
use Rattle.live_index.specs.declared.row.Row.{Row}
use Rattle.placed_sums.specs.Rows.{row_of}

-- that of a posting, negated, and none without an amount
abbrev pub taken_of_posting : Txn → Posting → List Row
taken_of_posting t p = from_amount (λ a. negated_row (row_of t p a) ∷ []) p.amount

abbrev pub taken_of_txn : Txn → List Row
taken_of_txn t = flat_map (taken_of_posting t) t.postings
