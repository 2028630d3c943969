-- What is closed over the items of a text and their book.
use Rattle.std.specs.Prelude.{◌≡◌, ℕ, List}
use Rattle.book.specs.declared.item.Book.{Book}
use Rattle.book.specs.declared.item.Placed.{Placed}
use Rattle.book_care.specs.declared.close.Closing.{Closing}
use Rattle.query.specs.Made.{IsQueryOf}
use Rattle.query.specs.OwnLetters.{own_in}
use Rattle.report_commands.specs.Matters.{letters_in}
use Rattle.book_commands.specs.declared.work.CloseAsked.{CloseAsked}

-- the items and their book, the query of the words that are asked and the letters of the text, the day and the account
pub record IsClosingOf (asked : CloseAsked) (day : ℕ) (items : List Placed) (book : Book) (closing : Closing) : Type 0 where
  pub items_are : closing.items.now ≡ items
  pub book_is : closing.book.now ≡ book
  pub on_is : closing.on.0 ≡ asked.on
  pub into_is : closing.into.now ≡ asked.into
  pub query : IsQueryOf day asked.words closing.query.now
  pub letters : (name : List ℕ) → own_in closing.types.now name ≡ letters_in closing.items.now name
