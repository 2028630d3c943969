-- Why an edit of a journal is refused, and what it is where it isn't.
use Rattle.std.specs.Prelude.{◌≡◌, ℕ, Bool, true, false, ◌||◌, not, List, [], ◌∷◌, nat_lt, Option, Some, None, IfSome, is_some, Result, Ok, Err, if◌then◌else◌, length, find}
use Rattle.std.specs.List.{list_any}
use Rattle.std.specs.Str.{bytes_eq}
use Rattle.hl_base.specs.Items.{items_of}
pub use Rattle.hl_base.specs.Pieces.{is_entry}
use Rattle.hl_base.specs.declared.items.Kind.{Kind}
use Rattle.hl_base.specs.declared.items.Kind.TheVariants as kinds
use Rattle.hl_base.specs.declared.items.Piece.{Piece}
use Rattle.book.specs.declared.item.Book.{Book}
use Rattle.book.specs.declared.fault.Fault.{Fault}
use Rattle.live_journal.specs.declared.edit.Edit.{Edit}
use Rattle.live_journal.specs.declared.edit.Edit.TheVariants.{Add, Change, Replace}
use Rattle.live_journal.specs.declared.fault.EditFault.{EditFault}
use Rattle.live_journal.specs.declared.fault.EditFault.TheVariants as refused
use Rattle.live_journal.specs.Faults.{as_refusal}
use Rattle.live_journal.specs.declared.fault.OpenFault.{OpenFault}
use Rattle.live_journal.specs.Edits.{applied, splice_of, numbered}
use Rattle.live_journal.specs.Journals.{Journal, Planned}
use Rattle.live_journal.specs.Loading.{first_of, past_limit, book_of}

-- the revision from which an edit was made, where it says one
abbrev pub base_of : Edit → Option ℕ
base_of (Add entry) = None
base_of (Change base item entry) = Some base
base_of (Replace base text) = Some base

-- the base is above the revision
abbrev pub bad_base : ℕ → Option ℕ → Option EditFault
bad_base current None = None
bad_base current (Some base) = if nat_lt current base then Some (refused.BadBase base current) else None

-- the base is below the revision
abbrev pub stale : ℕ → Option ℕ → Option EditFault
stale current None = None
stale current (Some base) = if nat_lt base current then Some (refused.Stale base current) else None

-- no item has the number
abbrev pub no_such_item : List Piece → Edit → Option EditFault
no_such_item pieces (Add entry) = None
no_such_item pieces (Change base item entry) =
    if is_some (numbered pieces item) then None else Some (refused.NoSuchItem item (length pieces))
no_such_item pieces (Replace base text) = None

abbrev pub is_gap : Kind → Bool
is_gap kinds.Gap = true
is_gap kinds.Entry = false
is_gap kinds.Block = false
is_gap kinds.Head = false
is_gap kinds.Stray = false

-- the line of a piece that was found, as a refusal
abbrev pub at_line : Option Piece → Option EditFault
at_line None = None
at_line (Some piece) = Some (refused.NotTransactions piece.line)

-- the first piece of an entry that is neither an entry nor a gap
abbrev pub other_piece : List Piece → Option EditFault
other_piece pieces = at_line (find (λ p. not (is_entry p.kind || is_gap p.kind)) pieces)

-- there is no entry
abbrev pub no_entry : List Piece → Option EditFault
no_entry pieces = if list_any (λ p. is_entry p.kind) pieces then None else Some (refused.NotTransactions 1)

-- the item that is to be changed is there, and is no entry
abbrev pub not_an_entry : Option Piece → Option EditFault
not_an_entry None = None
not_an_entry (Some piece) = if is_entry piece.kind then None else Some (refused.NotTransactions 0)

-- An item that is changed must be an entry; an entry that is put in must have entries and gaps alone; one that is
-- added must have an entry.
abbrev pub not_transactions : List Piece → Edit → Option EditFault
not_transactions pieces (Add entry) = first_of (other_piece (items_of entry) ∷ no_entry (items_of entry) ∷ [])
not_transactions pieces (Change base item entry) = first_of (not_an_entry (numbered pieces item) ∷ other_piece (items_of entry) ∷ [])
not_transactions pieces (Replace base text) = None

-- the refusal of an edit whose new text makes no journal
abbrev pub refusal_in : Option OpenFault → Option EditFault
refusal_in None = None
refusal_in (Some fault) = Some (as_refusal fault)

abbrev pub too_large : Option (ℕ × ℕ) → Option EditFault
too_large None = None
too_large (Some past) = Some (refused.TooLarge past.0 past.1)

abbrev pub no_book : Result Book Fault → Option EditFault
no_book (Ok book) = None
no_book (Err fault) = Some (refused.Load fault)

-- The refusals of an edit in the order in which they are judged: the first that holds is the answer.
unfoldable pub refusal_of : Journal → Edit → Option EditFault
refusal_of j edit = first_of (
    bad_base j.revision (base_of edit)
    ∷ stale j.revision (base_of edit)
    ∷ no_such_item (items_of j.text) edit
    ∷ not_transactions (items_of j.text) edit
    ∷ too_large (past_limit (applied j.text edit))
    ∷ no_book (book_of j.year (applied j.text edit))
    ∷ [])

-- an edit of a journal as it is planned
abbrev pub planned : Journal → Edit → Planned
planned j edit = record {
  from = j;
  text = applied j.text edit;
  splice = splice_of j.text edit;
  same = bytes_eq (applied j.text edit) j.text;
}

abbrev pub or_refused : Planned → Option EditFault → Result Planned EditFault
or_refused plan None = Ok plan
or_refused plan (Some fault) = Err fault

-- What an edit of a journal is planned as, or why it is refused.
abbrev pub prepared : Journal → Edit → Result Planned EditFault
prepared j edit = or_refused (planned j edit) (refusal_of j edit)

-- the refusal that an error tells; want of memory tells none
abbrev pub cause_in : EditFault → Option EditFault
cause_in refused.Memory = None
cause_in (refused.BadBase base current) = Some (refused.BadBase base current)
cause_in (refused.Stale base current) = Some (refused.Stale base current)
cause_in (refused.NoSuchItem n count) = Some (refused.NoSuchItem n count)
cause_in (refused.NotTransactions line) = Some (refused.NotTransactions line)
cause_in (refused.TooLarge limit size) = Some (refused.TooLarge limit size)
cause_in (refused.Load fault) = Some (refused.Load fault)

-- an error tells this refusal of the new text, or want of memory
abbrev pub TellsRefusal : EditFault → Option OpenFault → Type 0
TellsRefusal e fault = IfSome (cause_in e) (λ told. refusal_in fault ≡ Some told)

-- a test answered what a verdict says: no refusal, or this one, or want of memory
abbrev pub Judges : {T : Type 0} → Result T EditFault → Option EditFault → Type 0
Judges (Ok t) verdict = verdict ≡ None
Judges (Err fault) verdict = IfSome (cause_in fault) (λ told. verdict ≡ Some told)

-- a journal after a planned edit of it
abbrev pub put_into : Planned → ℕ → Journal
put_into plan revision = record { text = plan.text; year = plan.from.year; revision = revision }
