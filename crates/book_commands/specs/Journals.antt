-- What the items of a text make.
use Rattle.std.specs.Prelude.{◌≡◌, ℕ, List, Option, Ok}
use Rattle.book.specs.Bounds.{TurnoverFits}
use Rattle.book.specs.Postings.{postings_of}
use Rattle.book.specs.Style.{style_of}
use Rattle.book.specs.Styles.{style_in}
use Rattle.book.specs.declared.item.Book.{Book}
use Rattle.book.specs.declared.item.Placed.{Placed}
use Rattle.book_care.specs.DeclaredNames.{AreDeclaredIn}
use Rattle.prices.specs.Quotes.{quotes_in}
use Rattle.query.specs.OwnLetters.{own_in}
use Rattle.journal_reader.specs.Items.{items_in}
use Rattle.balancing.specs.Load.{load}
use Rattle.report_commands.specs.Matters.{letters_in}
use Rattle.book_commands.specs.declared.journal.Checked.{Checked}
use Rattle.book_commands.specs.declared.journal.Journal.{Journal}
use Rattle.book_commands.specs.declared.journal.Kept.{Kept}
use Rattle.book_commands.specs.declared.journal.Whole.{Whole}

-- the book, the letters, the styles and the prices of these items
pub record IsJournalOf (items : List Placed) (journal : Journal) : Type 0 where
  pub book : load items ≡ Ok journal.book
  pub letters : (name : List ℕ) → own_in journal.types name ≡ letters_in items name
  pub styles : (symbol : List ℕ) → style_in journal.styles symbol ≡ style_of items symbol
  pub quotes : journal.prices ≡ quotes_in items

-- those of the items that a text reads as, with a year for dates without one
pub record IsJournalIn (year : Option ℕ) (text : List ℕ) (journal : Journal) : Type 0 where
  pub items : List Placed
  pub read : items_in year text ≡ Ok items
  pub made : IsJournalOf items journal

-- the names that these items declare, and their book
pub record IsCheckedOf (items : List Placed) (checked : Checked) : Type 0 where
  pub book : load items ≡ Ok checked.book
  pub declared : AreDeclaredIn items checked.declarations

-- those of the items that a text reads as, with a year for dates without one
pub record IsCheckedIn (year : Option ℕ) (text : List ℕ) (checked : Checked) : Type 0 where
  pub items : List Placed
  pub read : items_in year text ≡ Ok items
  pub made : IsCheckedOf items checked

-- the book of the items that a text reads as
pub record IsBookIn (year : Option ℕ) (text : List ℕ) (book : Book) : Type 0 where
  pub items : List Placed
  pub read : items_in year text ≡ Ok items
  pub loaded : load items ≡ Ok book
  pub fits : TurnoverFits (postings_of book.txns)

-- the items that a text reads as, and their book
pub record IsKeptOf (year : Option ℕ) (text : List ℕ) (kept : Kept) : Type 0 where
  pub read : items_in year text ≡ Ok kept.items
  pub book : load kept.items ≡ Ok kept.book
  pub fits : TurnoverFits (postings_of kept.book.txns)

-- the items that a text reads as, and what they make
pub record IsWholeOf (year : Option ℕ) (text : List ℕ) (whole : Whole) : Type 0 where
  pub read : items_in year text ≡ Ok whole.items
  pub made : IsJournalOf whole.items whole.journal
