-- What is kept of a text, its items and its book.
use Rattle.std.specs.Prelude.{◌≡◌, ℕ, List, Option}
use Rattle.asked_days.specs.Asked as asks
use Rattle.book.specs.declared.item.Placed.{Placed}
use Rattle.book.specs.declared.transaction.Txn.{Txn}
use Rattle.counted_styles.specs.Texts as texts
use Rattle.text_ends.specs.Ends.{end_of}
use Rattle.kept_texts.specs.declared.edited.Edited.{Edited}
use Rattle.kept_texts.specs.declared.kept.KeptText.{KeptText}

-- What is kept is that of a text that begins in a year, with its items and the transactions of its book.
pub record IsOf (year : Option ℕ) (text : List ℕ) (items : List Placed) (book : List Txn) (kept : KeptText) : Type 0 where
  pub end : kept.end ≡ end_of year text items
  pub styles : texts.IsOf items kept.styles
  pub asked : asks.AreOf book kept.asked

-- its styles are those of the items, and its days those on which the book asks
pub record Has (items : List Placed) (book : List Txn) (kept : KeptText) : Type 0 where
  pub styles : texts.IsOf items kept.styles
  pub asked : asks.AreOf book kept.asked

-- the same of what an edit makes
pub record IsWith (items : List Placed) (book : List Txn) (edited : Edited) : Type 0 where
  pub styles : texts.IsOf items edited.styles
  pub asked : asks.AreOf book edited.asked
