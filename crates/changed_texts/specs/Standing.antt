-- What it means that other bytes stand in the place of an entry of a text.
use Rattle.std.specs.Prelude.{◌≡◌, ℕ, true, List, Option, Ok}
use Rattle.hl_base.specs.declared.items.Piece.{Piece}
use Rattle.book.specs.declared.item.Placed.{Placed}
use Rattle.entry_reader.specs.Contexts.{context_of}
use Rattle.journal_reader.specs.Items.{items_in}
use Rattle.text_ends.specs.Ends.{ends_line, items_at}
use Rattle.changed_texts.specs.Meeting.{AreEntries}
use Rattle.changed_texts.specs.Replacing.{IsEntryOf, replaced}

-- Entries and gaps, which end with the end of a line, stand in the place of the n-th piece of a text, which is an entry. The
-- text begins in a year and reads as some items; the new one reads as others, behind which a text reads as behind those.
pub record Replaces (year : Option ℕ) (text : List ℕ) (items : List Placed) (n : ℕ) (p : Piece) (bytes : List ℕ) (after : List Placed) : Type 0 where
  pub of : IsEntryOf text n p
  pub entries : AreEntries bytes
  pub ends : ends_line bytes ≡ true
  pub was : items_in year text ≡ Ok items
  pub is : items_in year (replaced text p bytes) ≡ Ok after
  pub context : context_of year (items_at after) ≡ context_of year (items_at items)
