-- An entry that an edit puts in the place of an item.
use Rattle.std.specs.Prelude.{◌≡◌, ◌-◌, ℕ, ◌≤◌, List, Option, Ok, length}
use Rattle.hl_base.specs.Items.{items_of}
use Rattle.hl_base.specs.Limits.{item_limit, text_limit}
use Rattle.hl_base.specs.declared.items.Piece.{Piece}
use Rattle.book.specs.declared.item.Placed.{Placed}
use Rattle.entry_reader.specs.declared.fault.ReadFault.{ReadFault}
use Rattle.entry_reader.specs.declared.fault.ReadFault.TheVariants as reads
use Rattle.journal_reader.specs.Items.{items_in}
use Rattle.changed_texts.specs.OneEntry.{IsMet, items_met}
use Rattle.changed_texts.specs.Replacing.{IsEntryOf, offset_of, replaced}
use Rattle.changed_texts.specs.Standing.{Replaces}
use Rattle.changed_texts.specs.declared.met.Met.{Met}
use Rattle.loaded_texts.specs.Changing.{IsMetIn}
use Rattle.live_journal.specs.declared.edit.Edit.{Edit}
use Rattle.live_journal.specs.declared.edit.Edit.TheVariants.{Add, Change, Replace}
use Rattle.live_journal.specs.declared.editing.Editing.{Editing}

-- it changes the item of a number, counted from 1
abbrev pub IsChange : Edit → ℕ → Type 0
IsChange (Add entry) item = ⊥
IsChange (Change base named entry) item = item ≡ named
IsChange (Replace base text) item = ⊥

-- the same of a number that is counted from 0
pub record IsChangeOf (e : Editing) (n : ℕ) : Type 0 where
  pub base : ℕ
  pub item : ℕ
  pub entry : List ℕ
  pub is : e.edit.now ≡ Change base item entry
  pub at : n ≡ item - 1

-- an entry of the text has the number, and in its place the bytes make the new text
pub record IsThere (e : Editing) (n : ℕ) : Type 0 where
  pub piece : Piece
  pub of : IsEntryOf e.text.now n piece
  pub whole : e.new.now ≡ replaced e.text.now piece e.bytes.now

-- the bytes were read there
pub record IsMetAt (e : Editing) (n : ℕ) (items : List Placed) (met : Met) : Type 0 where
  pub piece : Piece
  pub replaces : Replaces e.year e.text.now items n piece e.bytes.now (items_met n items met)
  pub whole : e.new.now ≡ replaced e.text.now piece e.bytes.now
  pub by : met.by ≡ offset_of e.text.now piece e.bytes.now
  pub fits_there : IsMet n items met

-- and the new text is within its limits
abbrev pub IsMetInside : Editing → ℕ → List Placed → Met → Type 0
IsMetInside e n items met = IsMetIn e.year e.text.now e.bytes.now e.new.now n items met

-- why the bytes weren't read: the new text doesn't read, or memory is wanting
abbrev pub IsUnread : Editing → ReadFault → Type 0
IsUnread e (reads.Read fault) = (items : List Placed) → items_in e.year e.new.now ≡ Ok items → ⊥
IsUnread e reads.Memory = Unit {0}
