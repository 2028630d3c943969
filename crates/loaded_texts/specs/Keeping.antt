-- All that is made of a text, and what is kept of it.
use Rattle.std.specs.Prelude.{◌≡◌, ℕ, ◌≤◌, List, Option, Ok, length, map}
use Rattle.hl_base.specs.Items.{items_of}
use Rattle.hl_base.specs.Limits.{item_limit, text_limit}
use Rattle.hl_base.specs.declared.items.Piece.{Piece}
use Rattle.book.specs.Bounds.{TurnoverFits}
use Rattle.book.specs.Postings.{postings_of, txns_of}
use Rattle.book.specs.declared.item.Placed.{Placed}
use Rattle.balancing.specs.Load.{load}
use Rattle.journal_reader.specs.Items.{items_in}
use Rattle.additions.specs.Kept.{IsBookEnd}
use Rattle.kept_books.specs.Keeping as books
use Rattle.kept_texts.specs.Keeping as texts
use Rattle.loaded_texts.specs.declared.loaded.Loaded.{Loaded}

-- the pieces of some items
abbrev pub pieces_at : List Placed → List Piece
pieces_at items = map (λ p. p.piece) items

-- A text that begins in a year is within its limits, reads as these items and has this book, which stays in range; and this is kept
-- of its end, its styles and the days on which it asks, of the book's end, and of the book for walks and reports.
pub record IsLoaded (year : Option ℕ) (text : List ℕ) (l : Loaded) : Type 0 where
  pub few_bytes : length text ≤ text_limit
  pub few_items : length (items_of text) ≤ item_limit
  pub read : items_in year text ≡ Ok l.items
  pub loads : load l.items ≡ Ok l.book
  pub fits : TurnoverFits (postings_of l.book.txns)
  pub of_text : texts.IsOf year text l.items l.book.txns l.text
  pub of_end : IsBookEnd l.book.txns l.end
  pub of_book : books.IsOf (txns_of l.items) l.book.txns l.kept
