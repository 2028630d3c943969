-- The items of a text, each read in the context that filters the items before it.
use Rattle.std.specs.Prelude.{◌≡◌, ℕ, List, ◌∷◌, ◌++◌, map, take, drop, Option, Some, Result, Ok, Err}
use Rattle.std.specs.List.{slice_get}
use Rattle.hl_base.specs.Items as cut
use Rattle.hl_base.specs.declared.items.Piece.{Piece}
use Rattle.book.specs.declared.fault.Fault.{Fault}
use Rattle.book.specs.declared.item.Item.{Item}
use Rattle.book.specs.declared.item.Placed.{Placed}
use Rattle.journal_reader.specs.Items.{reading}
use Rattle.context_laws.specs.Filters.{context_before}

abbrev pub items_of : List Placed → List Item
items_of placed = map (λ p. p.item) placed

abbrev pub pieces_of : List Placed → List Piece
pieces_of placed = map (λ p. p.piece) placed

-- what a piece of a text reads as after some items
abbrev pub read_after : Option ℕ → List ℕ → List Item → Piece → Result Item Fault
read_after year text before piece = reading (context_before year before) piece.line (take piece.len (drop piece.at text))

-- each of these items is what its piece reads as after those before it
abbrev pub EachReads : Option ℕ → List ℕ → List Placed → Type 0
EachReads year text placed =
    (n : ℕ) (p : Placed) → slice_get placed n ≡ Some p → read_after year text (items_of (take n placed)) p.piece ≡ Ok p.item

-- these are the items of the text
pub record AreRead (year : Option ℕ) (text : List ℕ) (placed : List Placed) : Type 0 where
  pub pieces : pieces_of placed ≡ cut.items_of text
  pub each : EachReads year text placed

-- some first pieces of the text read, and the next one has this fault
pub record IsUnread (year : Option ℕ) (text : List ℕ) (fault : Fault) : Type 0 where
  pub front : List Placed
  pub piece : Piece
  pub later : List Piece
  pub pieces : cut.items_of text ≡ pieces_of front ++ piece ∷ later
  pub each : EachReads year text front
  pub fails : read_after year text (items_of front) piece ≡ Err fault
