-- What an edit comes to that is tried.
use Rattle.std.specs.Prelude.{◌≡◌, ℕ, ◌+◌, ◌<◌, ◌≤◌, Bool, true, false, List, ◌++◌, Option, None, IfErr, IfOk, IfSome, OnErr, OnOk, Result, is_some, length}
use Rattle.hl_base.specs.Counts.{Counts}
use Rattle.hl_base.specs.Limits.{text_limit}
use Rattle.book.specs.Postings.{txns_of}
use Rattle.additions.specs.Meaning.{AddsOn}
use Rattle.additions.specs.declared.book_end.Plain.{Plain}
use Rattle.kept_books.specs.Counting.{ChecksFew}
use Rattle.text_ends.specs.Growth.{goes_behind}
use Rattle.text_ends.specs.declared.reading.Grown.{Grown}
use Rattle.walked_texts.specs.Making.{edit_behind}
use Rattle.loaded_texts.specs.Growing.{IsGrown}
use Rattle.loaded_texts.specs.Ways.{IsMadeFrom}
use Rattle.loaded_texts.specs.declared.loaded.Loaded.{Loaded}
use Rattle.loaded_texts.specs.declared.made.Made.{Made}
use Rattle.live_journal.specs.declared.edit.Edit.{Edit}
use Rattle.live_journal.specs.declared.edit.Edit.TheVariants.{Add, Change, Replace}
use Rattle.live_journal.specs.declared.editing.Editing.{Editing}
use Rattle.live_journal.specs.declared.fault.EditFault.{EditFault}
use Rattle.live_journal.specs.Checking.{CountsBytes, CountsEdit, CountsRefused}
use Rattle.live_journal.specs.Edits.{applied, splice_of}
use Rattle.live_journal.specs.Journals.{Journal}
use Rattle.live_journal.specs.Loading.{fault_of}
use Rattle.live_journal.specs.Reading.{is_misread, is_quiet}
use Rattle.live_journal.specs.Refusals.{TellsRefusal}
use Rattle.live_journal.specs.Walking.{edit_made, is_plain_edit}

-- the journal of a text that is edited; how many edits it has had doesn't matter
abbrev pub journal_at : Editing → Journal
journal_at e = record { text = e.text.now; year = e.year; revision = 0 }

-- the bytes are those that the edit puts in, and the new text is the one that it makes
pub record IsEditing (e : Editing) : Type 0 where
  pub put : e.bytes.now ≡ (splice_of e.text.now e.edit.now).inserted
  pub makes : e.new.now ≡ applied e.text.now e.edit.now

abbrev pub IsAdd : Edit → Type 0
IsAdd (Add entry) = Unit {0}
IsAdd (Change base item entry) = ⊥
IsAdd (Replace base text) = ⊥

abbrev pub IsOther : Edit → Type 0
IsOther edit = is_plain_edit edit ≡ false

-- What an edit came to: what it makes of all that is made of the text, or why it is refused; and what it counts.
pub record Comes (e : Editing) (answer : Result Made EditFault) (before after : Counts) : Type 0 where
  pub made : IfOk answer (IsMadeFrom e.year e.text.now e.bytes.now e.new.now)
  pub loads : OnOk answer (fault_of e.year e.new.now ≡ None)
  pub few : OnOk answer (length e.new.now ≤ text_limit)
  pub fault : IfErr answer (λ x. TellsRefusal x (fault_of e.year e.new.now))
  pub counts : OnOk answer (CountsEdit (journal_at e) e.edit.now before after)
  pub refused : OnErr answer (CountsRefused (journal_at e) e.edit.now before after)

-- the same of a journal, whose edit puts in some bytes and makes a new text
pub record ComesOf (j : Journal) (edit : Edit) (bytes new : List ℕ) (answer : Result Made EditFault) (before after : Counts) : Type 0 where
  pub made : IfOk answer (IsMadeFrom j.year j.text bytes new)
  pub loads : OnOk answer (fault_of j.year new ≡ None)
  pub few : OnOk answer (length new ≤ text_limit)
  pub fault : IfErr answer (λ x. TellsRefusal x (fault_of j.year new))
  pub counts : OnOk answer (CountsEdit j edit before after)
  pub refused : OnErr answer (CountsRefused j edit before after)

-- the same, after what it puts in was read
abbrev pub ComesSince : Editing → Result Made EditFault → Counts → Counts → Type 0
ComesSince e answer mid after = (before : Counts) → CountsBytes (length e.bytes.now) before mid → Comes e answer before after

-- It is a plain one that doesn't leave all other transactions as they are, as far as is told, and has no fault of its own.
pub record IsOpen (e : Editing) : Type 0 where
  pub plain : is_plain_edit e.edit.now ≡ true
  pub sound : is_misread (journal_at e) e.edit.now ≡ false
  pub loud : is_quiet (journal_at e) e.edit.now ≡ false

-- Since a moment what it puts in was read at most, and no more transactions were checked than it reaches.
pub record IsTried (e : Editing) (before after : Counts) : Type 0 where
  pub read : after.bytes_read ≤ before.bytes_read + length e.bytes.now
  pub checked : ChecksFew (edit_made (journal_at e) e.edit.now) before after

-- what it comes to after a walk
abbrev pub ComesPast : Editing → Result Made EditFault → Counts → Counts → Type 0
ComesPast e answer mid after = (before : Counts) → IsTried e before mid → Comes e answer before after

-- The new text was loaded, or has this fault.
pub record IsAnew (e : Editing) (answer : Result Made EditFault) (before after : Counts) : Type 0 where
  pub made : IfOk answer (IsMadeFrom e.year e.text.now e.bytes.now e.new.now)
  pub loads : OnOk answer (fault_of e.year e.new.now ≡ None)
  pub few : OnOk answer (length e.new.now ≤ text_limit)
  pub fault : IfErr answer (λ x. TellsRefusal x (fault_of e.year e.new.now))
  pub counts : CountsBytes (length e.new.now) before after

-- What an entry that is added comes to behind what is loaded: what was read, and maybe transactions that leave all others as they
-- are; else there is one at least.
pub record IsComing (e : Editing) (l : Loaded) (g : Grown) (p : Option Plain) : Type 0 where
  pub plain : is_plain_edit e.edit.now ≡ true
  pub sound : is_misread (journal_at e) e.edit.now ≡ false
  pub quiet : is_quiet (journal_at e) e.edit.now ≡ is_some p
  pub whole : e.new.now ≡ e.text.now ++ e.bytes.now
  pub reach : edit_made (journal_at e) e.edit.now ≡ edit_behind l.items g
  pub grown : IsGrown e.year e.text.now e.bytes.now l.items g
  pub adds : IfSome p (AddsOn l.items l.book.txns g)
  pub some : is_some p ≡ false → 0 < length (txns_of g.items)

-- what it puts in stands behind the text, which goes on in it
pub record IsBehind (e : Editing) (l : Loaded) : Type 0 where
  pub whole : e.new.now ≡ e.text.now ++ e.bytes.now
  pub goes : goes_behind l.text.end e.bytes.now ≡ true
