-- An entry in the place of another one.
use Rattle.std.specs.Prelude.{◌≡◌, ◌==◌, ℕ, suc, ◌<◌, ◌≤◌, List, ◌++◌, Option, Ok, drop, length, set}
use Rattle.std.specs.List.{AllByRecursion}
use Rattle.hl_base.specs.Items.{items_of}
use Rattle.hl_base.specs.Limits.{item_limit, text_limit}
use Rattle.hl_base.specs.declared.items.Piece.{Piece}
use Rattle.book.specs.Bounds.{TurnoverFits}
use Rattle.book.specs.Postings.{postings_of, txns_of}
use Rattle.book.specs.declared.item.Placed.{Placed}
use Rattle.book.specs.declared.transaction.Txn.{Txn}
use Rattle.balancing.specs.Load.{load}
use Rattle.balancing.specs.Solves.{Solves}
use Rattle.journal_reader.specs.Items.{items_in}
use Rattle.additions.specs.Kept.{IsBookEnd}
use Rattle.changed_texts.specs.OneEntry.{IsMet, items_met}
use Rattle.changed_texts.specs.Replacing.{number_at, offset_of, replaced}
use Rattle.changed_texts.specs.Standing.{Replaces}
use Rattle.changed_texts.specs.declared.met.Met.{Met}
use Rattle.kept_books.specs.Keeping.{IsOf}
use Rattle.kept_texts.specs.Keeping.{IsWith}
use Rattle.kept_texts.specs.Moving.{CanMoveEnd}
use Rattle.moved_lines.specs.Moving.{CanMovePlaced, CanMoveTxn, moved_from}
use Rattle.walked_edits.specs.Forms.{IsInside, put_forms}
use Rattle.reached_walk.specs.Closed.{Edit, edits_of}
use Rattle.walked_texts.specs.Making.{book_with, room_for}
use Rattle.walked_texts.specs.declared.making.Parts.{Parts}
use Rattle.loaded_texts.specs.declared.changing.Changed.{Changed}
use Rattle.loaded_texts.specs.declared.loaded.Loaded.{Loaded}

-- Bytes stand in the place of the n-th piece of a text, which reads as some items; the new text is within its limits, and reads as
-- the items with what the bytes say there.
pub record IsMetIn (year : Option ℕ) (text bytes new : List ℕ) (n : ℕ) (items : List Placed) (met : Met) : Type 0 where
  pub piece : Piece
  pub replaces : Replaces year text items n piece bytes (items_met n items met)
  pub whole : new ≡ replaced text piece bytes
  pub by : met.by ≡ offset_of text piece bytes
  pub fits_there : IsMet n items met
  pub few_bytes : length new ≤ text_limit
  pub few_items : length (items_of new) ≤ item_limit

-- ---- the book

-- the forms stand in it, and all from the first one on is moved by what was removed and added
abbrev pub book_moved : List Txn → Changed → List Txn
book_moved txns c = moved_from c.first c.met.by.lines (put_forms txns c.parts.forms.items)

-- So it becomes the book of some items, which stays in range; and what is kept is that of these items and of this book.
pub record ChangesBook (items : List Placed) (txns : List Txn) (c : Changed) : Type 0 where
  pub inside : AllByRecursion (IsInside txns) c.parts.forms.items
  pub first : c.first ≤ length (put_forms txns c.parts.forms.items)
  pub lines : AllByRecursion (CanMoveTxn c.met.by.lines) (drop c.first (put_forms txns c.parts.forms.items))
  pub loads : load items ≡ Ok (record { txns = book_moved txns c })
  pub fits : TurnoverFits (postings_of (book_moved txns c))
  pub edited : IsWith items (book_moved txns c) c.parts.edited
  pub end : IsBookEnd (book_moved txns c) c.parts.end
  pub kept : IsOf (txns_of items) (book_moved txns c) c.parts.kept

-- ---- all of it

pub record Changes (year : Option ℕ) (text bytes new : List ℕ) (items : List Placed) (txns : List Txn) (c : Changed) : Type 0 where
  pub met : IsMetIn year text bytes new c.number items c.met
  pub makes : ChangesBook (items_met c.number items c.met) txns c

-- so it is of whatever a text reads as, and of its book
abbrev pub ChangesTo : Option ℕ → List ℕ → List ℕ → List ℕ → Changed → Type 0
ChangesTo year text bytes new c = (items : List Placed) (txns : List Txn) → items_in year text ≡ Ok items → load items ≡ Ok (record { txns = txns }) → Changes year text bytes new items txns c

-- All that is made of a text can take it in.
pub record CanTakeChange (l : Loaded) (c : Changed) : Type 0 where
  pub number : c.number < length l.items
  pub fits_there : IsMet c.number l.items c.met
  pub behind : AllByRecursion (CanMovePlaced c.met.by) (drop (suc c.number) l.items)
  pub moves : CanMoveEnd c.met.by l.text.end
  pub inside : AllByRecursion (IsInside l.book.txns) c.parts.forms.items
  pub first : c.first ≤ length (put_forms l.book.txns c.parts.forms.items)
  pub lines : AllByRecursion (CanMoveTxn c.met.by.lines) (drop c.first (put_forms l.book.txns c.parts.forms.items))

-- ---- the parts that a walk makes, in the old lines, with the gaps around the entry

pub record AreMetParts (items : List Placed) (txns : List Txn) (n : ℕ) (met : Met) (p : Parts) : Type 0 where
  pub room : txns ++ p.vacants.items ≡ room_for (set items n met.placed) txns
  pub inside : AllByRecursion (IsInside (room_for (set items n met.placed) txns)) p.forms.items
  pub solves : Solves (txns_of (set items n met.placed)) (book_with (set items n met.placed) txns p.forms.items)
  pub fits : TurnoverFits (postings_of (book_with (set items n met.placed) txns p.forms.items))
  pub edited : IsWith (items_met n items met) (book_with (set items n met.placed) txns p.forms.items) p.edited
  pub end : IsBookEnd (book_with (set items n met.placed) txns p.forms.items) p.end
  pub kept : IsOf (txns_of (set items n met.placed)) (book_with (set items n met.placed) txns p.forms.items) p.kept

-- ---- the edit

-- an entry stands in the place of another one: its transaction is edited
abbrev pub edit_met : List Placed → ℕ → Met → Edit
edit_met items n met = edits_of (λ k. k == number_at items n) (txns_of items) (txns_of (items_met n items met))
