-- Books that are made of one by more transactions behind it and other forms in it.
use Rattle.std.specs.Prelude.{◌≡◌, ℕ, ◌+◌, ◌≤◌, List, ◌++◌, Ok, length}
use Rattle.std.specs.List.{AllByRecursion}
use Rattle.book.specs.Bounds.{TurnoverFits}
use Rattle.book.specs.Postings.{postings_of, txns_of}
use Rattle.book.specs.declared.item.Placed.{Placed}
use Rattle.book.specs.declared.transaction.Txn.{Txn}
use Rattle.balancing.specs.Load.{load}
use Rattle.additions.specs.Kept.{IsBookEnd}
use Rattle.kept_books.specs.Keeping.{IsOf}
use Rattle.kept_texts.specs.Keeping.{IsWith}
use Rattle.walked_edits.specs.Forms.{IsInside, put_forms}
use Rattle.walked_texts.specs.declared.making.Parts.{Parts}

-- a book with more transactions behind it, among all of which forms stand
abbrev pub book_by : List Txn → Parts → List Txn
book_by txns p = put_forms (txns ++ p.vacants.items) p.forms.items

-- So it becomes the book of some items, which stays in range; and what is kept is that of these items and of this book.
pub record MakesBook (items : List Placed) (txns : List Txn) (p : Parts) : Type 0 where
  pub inside : AllByRecursion (IsInside (txns ++ p.vacants.items)) p.forms.items
  pub loads : load items ≡ Ok (record { txns = book_by txns p })
  pub fits : TurnoverFits (postings_of (book_by txns p))
  pub edited : IsWith items (book_by txns p) p.edited
  pub end : IsBookEnd (book_by txns p) p.end
  pub kept : IsOf (txns_of items) (book_by txns p) p.kept
