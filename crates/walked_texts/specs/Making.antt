-- What a walk makes of the items of a text and of its book.
use Rattle.std.specs.Prelude.{◌≡◌, ◌==◌, ℕ, nat_le, List, [], ◌++◌, IfErr, IfOk, IfSome, IsSomeAnd, Option, Result, length, set, slice_get, take}
use Rattle.std.specs.List.{AllByRecursion}
use Rattle.hl_base.specs.Counts.{Counts}
use Rattle.book.specs.Bounds.{TurnoverFits}
use Rattle.book.specs.Postings.{postings_of, txns_of}
pub use Rattle.book.specs.Postings.{IsTxn}
use Rattle.book.specs.declared.item.Item.{Item}
use Rattle.book.specs.declared.item.Item.TheVariants as item
use Rattle.book.specs.declared.item.Placed.{Placed}
use Rattle.book.specs.declared.transaction.Txn.{Txn}
use Rattle.balancing.specs.Solves.{Solves}
use Rattle.index_cells.specs.Books.{KeepsBook}
use Rattle.index_cells.specs.declared.kept.Kept.{Kept}
use Rattle.reached_walk.specs.Closed.{Edit, edits_of}
use Rattle.reached_walk.specs.Spots.{AreOnce}
use Rattle.walked_edits.specs.Causes.{IsCause}
use Rattle.walked_edits.specs.Forms.{IsInside, put_forms, spots_of, with_room}
use Rattle.walked_edits.specs.declared.fault.WalkFault.{WalkFault}
use Rattle.walked_edits.specs.declared.replaced.Replaced.{Replaced}
use Rattle.kept_books.specs.Counting.{AsksWritten, ChecksFew}
use Rattle.kept_books.specs.Keeping.{IsOf}
use Rattle.kept_books.specs.Reaching.{HasNoPlainReach}
use Rattle.kept_books.specs.Walking.{IsWalkOf}
use Rattle.kept_books.specs.declared.walk.Walk.{Walk}
use Rattle.text_ends.specs.Going.{items_behind}
use Rattle.text_ends.specs.declared.reading.Grown.{Grown}
use Rattle.kept_texts.specs.Keeping.{IsWith}
use Rattle.kept_texts.specs.declared.edited.Edited.{Edited}
use Rattle.additions.specs.Kept.{IsBookEnd}
use Rattle.walked_texts.specs.declared.making.Parts.{Parts}

-- ---- the edits, told by the transactions of a text before and after them

-- bytes behind a text come to items there: all of their transactions are edited
abbrev pub edit_behind : List Placed → Grown → Edit
edit_behind items grown = edits_of (λ n. nat_le (length (txns_of items)) n) (txns_of items) (txns_of (items_behind items grown))

-- the number of the transaction that an item is, among all of a text
abbrev pub number_at : List Placed → ℕ → ℕ
number_at items number = length (txns_of (take number items))

-- an item stands in the place of another one: its transaction is edited
abbrev pub edit_at : List Placed → ℕ → Placed → Edit
edit_at items number placed = edits_of (λ n. n == number_at items number) (txns_of items) (txns_of (set items number placed))

-- a transaction stands under a number among some items
abbrev pub IsTxnAt : List Placed → ℕ → Type 0
IsTxnAt items number = IsSomeAnd (slice_get items number) (λ placed. IsTxn placed.item)

-- ---- what is made

-- a book with room for all transactions of the new text, which has some items
abbrev pub room_for : List Placed → List Txn → List Txn
room_for items book = with_room (txns_of items) book

-- the book of the new text: the forms stand in the old one, with that room
abbrev pub book_with : List Placed → List Txn → List Replaced → List Txn
book_with items book forms = put_forms (room_for items book) forms

-- What is made of a book for a new text with some items. With the forms it is the new text's book, which stays in range; and
-- all that is kept is that of the new text and of this book.
pub record AreParts (items : List Placed) (book : List Txn) (p : Parts) : Type 0 where
  pub room : book ++ p.vacants.items ≡ room_for items book
  pub inside : AllByRecursion (IsInside (room_for items book)) p.forms.items
  pub solves : Solves (txns_of items) (book_with items book p.forms.items)
  pub fits : TurnoverFits (postings_of (book_with items book p.forms.items))
  pub edited : IsWith items (book_with items book p.forms.items) p.edited
  pub end : IsBookEnd (book_with items book p.forms.items) p.end
  pub kept : IsOf (txns_of items) (book_with items book p.forms.items) p.kept

-- ---- what is answered

-- What comes of a walk of an edit: what is so of what it made, and what it counts.
pub record Answers {A : Type 0} (edit : Edit) (IsMade : A → Type 0) (answer : Result A WalkFault) (before after : Counts) : Type 0 where
  pub made : IfOk answer IsMade
  -- whatever the answer is, no more transactions are checked than the edit reaches, and nothing is read
  pub few : ChecksFew edit before after
  pub read : after.bytes_read ≡ before.bytes_read
  pub nodes : IfOk answer (λ _. AsksWritten edit before after)
  -- the whole text is to be loaded only where no set of transactions is closed and none of it is mixed in a book of the new text
  pub load : IfErr answer (λ fault. IsCause fault (HasNoPlainReach edit))

-- a walk told the book of a new text that has some items
abbrev pub IsWalkFor : List Placed → List Txn → Walk → Type 0
IsWalkFor items book walk = IsWalkOf (txns_of items) (room_for items book) walk

-- ---- while it is made

-- One form is taken in: in a book that has under its number what a book with room has there, the form stands then.
abbrev pub TakesIn : List Txn → Replaced → Edited → Edited → Type 0
TakesIn room form before after =
    (items : List Placed) (book : List Txn) → IsWith items book before → slice_get book form.spot.number ≡ slice_get room form.spot.number
    → IsWith items (set book form.spot.number form.txn) after

-- What is at hand where forms are put into a book with places held behind it: the sums of the book for plain reports, if they
-- are kept; the forms fit in, and the book with them stays in range.
pub record CanPut (book vacants : List Txn) (sums : Option Kept) (walk : Walk) : Type 0 where
  pub sums_are : IfSome sums (KeepsBook book)
  pub blank : AllByRecursion (λ t. t.postings ≡ []) vacants
  pub inside : AllByRecursion (IsInside (book ++ vacants)) walk.forms.items
  pub once : AreOnce (spots_of walk.forms.items)
  pub fits : TurnoverFits (postings_of (put_forms (book ++ vacants) walk.forms.items))

-- What a walk told, and what an edit makes of a text's items with the places of those behind the book, from which parts are made.
pub record CanMake (items : List Placed) (book vacants : List Txn) (edited : Edited) (walk : Walk) : Type 0 where
  pub room : book ++ vacants ≡ room_for items book
  pub walked : IsWalkFor items book walk
  pub begun : IsWith items (book ++ vacants) edited
