-- What is kept of a book, and of a text with its book.
use Rattle.std.specs.Prelude.{◌≡◌, ℕ, List, Option, Ok}
use Rattle.book.specs.Postings.{postings_of}
use Rattle.book.specs.declared.item.Placed.{Placed}
use Rattle.book.specs.declared.transaction.Txn.{Txn}
use Rattle.entry_balance.specs.Entry.{moved}
use Rattle.balancing.specs.Load.{load}
use Rattle.journal_reader.specs.Items.{items_in}
use Rattle.kept_turnover.specs.Keeping.{IsTurnover}
use Rattle.text_ends.specs.Ends.{end_of}
use Rattle.text_ends.specs.declared.kept.KeptEnd.{KeptEnd}
use Rattle.additions.specs.Asked.{has_assigned, last_asked}
use Rattle.additions.specs.declared.book_end.BookEnd.{BookEnd}

-- the last day on which a book asks for a balance, whether it has assignments, and all that it moves
pub record IsBookEnd (book : List Txn) (b : BookEnd) : Type 0 where
  pub asked : b.asked ≡ last_asked book
  pub assigned : b.assigned ≡ has_assigned book
  pub moves : IsTurnover b.turnover (moved (postings_of book))

-- A text that begins in a year reads as these items and loads to these transactions, and this is kept of its end and of
-- its book.
pub record IsKept (year : Option ℕ) (text : List ℕ) (items : List Placed) (book : List Txn) (e : KeptEnd) (b : BookEnd) : Type 0 where
  pub read : items_in year text ≡ Ok items
  pub loads : load items ≡ Ok (record { txns = book })
  pub end : e ≡ end_of year text items
  pub known : IsBookEnd book b
