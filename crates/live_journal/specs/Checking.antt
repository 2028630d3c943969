-- What is counted of an edit: the bytes that are read, the transactions that are checked, and the nodes of an index that are asked.
use Rattle.std.specs.Prelude.{◌≡◌, ℕ, ◌+◌, ◌*◌, ◌≤◌, Bool, true, false, List, length}
use Rattle.hl_base.specs.Counts.{Counts}
use Rattle.book.specs.declared.transaction.Txn.{Txn}
use Rattle.book_laws.specs.Reaching.{IsUnmixedReach}
use Rattle.kept_books.specs.Counting.{AsksWritten, ChecksFew}
use Rattle.live_journal.specs.declared.edit.Edit.{Edit}
use Rattle.live_journal.specs.Edits.{applied, splice_of}
use Rattle.live_journal.specs.Journals.{Journal}
use Rattle.live_journal.specs.Reading.{is_misread, is_quiet}
use Rattle.live_journal.specs.Walking.{edit_made, is_plain_edit}

-- how many bytes an edit puts into the text of a journal
abbrev pub put_in : Journal → Edit → ℕ
put_in j edit = length (splice_of j.text edit).inserted

-- how many the new text has
abbrev pub size_of : Journal → Edit → ℕ
size_of j edit = length (applied j.text edit)

-- Bytes are read, at most so many; no transaction is checked and no node of an index asked.
pub record CountsBytes (most : ℕ) (before after : Counts) : Type 0 where
  pub read : after.bytes_read ≤ before.bytes_read + most
  pub others : after ≡ record before { bytes_read = after.bytes_read }

-- What an edit puts in is read; and no more nodes are asked than the transactions want that it reaches, of symbols that the old text
-- or the new one writes.
pub record CountsPlain (j : Journal) (edit : Edit) (before after : Counts) : Type 0 where
  pub read : after.bytes_read ≤ before.bytes_read + put_in j edit
  pub nodes : AsksWritten (edit_made j edit) before after

-- An edit that is accepted. Whatever comes of it, no more transactions are checked than it reaches, and no more bytes read than
-- twice the new text has. A plain one reads what it puts in alone, where a set holds all that it reaches, none of the set is mixed
-- in a book of the new text, and no dated transaction is replaced. One that leaves all other transactions as they are reads that
-- and counts nothing else; one that isn't plain reads the new text.
pub record CountsEdit (j : Journal) (edit : Edit) (before after : Counts) : Type 0 where
  pub read : after.bytes_read ≤ before.bytes_read + 2 * size_of j edit
  pub checked : ChecksFew (edit_made j edit) before after
  pub plain : is_plain_edit edit ≡ true → (set : ℕ → Bool) (book : List Txn) → IsUnmixedReach (edit_made j edit) set book → CountsPlain j edit before after
  pub quiet : is_quiet j edit ≡ true → CountsBytes (put_in j edit) before after
  pub other : is_plain_edit edit ≡ false → CountsBytes (size_of j edit) before after

-- One that is refused. No more transactions are checked than it reaches. Of one with a fault of its own what it puts in is read, and
-- nothing else counted; of one that isn't plain no more than the new text.
pub record CountsRefused (j : Journal) (edit : Edit) (before after : Counts) : Type 0 where
  pub read : after.bytes_read ≤ before.bytes_read + 2 * size_of j edit
  pub checked : ChecksFew (edit_made j edit) before after
  pub misread : is_misread j edit ≡ true → CountsBytes (put_in j edit) before after
  pub other : is_plain_edit edit ≡ false → CountsBytes (size_of j edit) before after
