-- What an edit makes of the transactions of a text.
use Rattle.std.specs.Prelude.{ℕ, ◌-◌, ◌==◌, Bool, true, false, ◌&&◌, List, [], count_by, length, take, nat_le, Option, Result, Ok, Err}
use Rattle.hl_base.specs.Items.{items_of}
use Rattle.book.specs.Postings.{txns_of}
use Rattle.book.specs.declared.fault.Fault.{Fault}
use Rattle.book.specs.declared.item.Placed.{Placed}
use Rattle.book.specs.declared.transaction.Txn.{Txn}
use Rattle.changed_texts.specs.Meeting.{are_entries}
use Rattle.changed_texts.specs.OneEntry.{is_entry_piece}
use Rattle.reached_walk.specs.Closed as walks
use Rattle.live_journal.specs.declared.edit.Edit.{Edit}
use Rattle.live_journal.specs.declared.edit.Edit.TheVariants.{Add, Change, Replace}
use Rattle.live_journal.specs.Edits.{applied, ended}
use Rattle.live_journal.specs.Journals.{Journal}
use Rattle.live_journal.specs.Loading.{reading_in}

-- ---- plain edits

-- bytes are gaps and exactly one entry, and their first line isn't indented
abbrev pub is_one_entry : List ℕ → Bool
is_one_entry bytes = (count_by is_entry_piece (items_of bytes) == 1) && are_entries bytes (items_of bytes)

-- Entries that are added, or one that is put in the place of an item. Gaps may stand round it.
abbrev pub is_plain_edit : Edit → Bool
is_plain_edit (Add entry) = true
is_plain_edit (Change base item entry) = is_one_entry (ended entry)
is_plain_edit (Replace base text) = false

-- ---- the transactions of a text, as they are written

-- those of items that were read; of a text that doesn't read none
abbrev pub written_from : Result (List Placed) Fault → List Txn
written_from (Ok items) = txns_of items
written_from (Err fault) = []

abbrev pub written_in : Option ℕ → List ℕ → List Txn
written_in year text = written_from (reading_in year text)

-- how many transactions stand before the item of a number, counted from 1
abbrev pub before_item : Result (List Placed) Fault → ℕ → ℕ
before_item (Ok items) item = length (txns_of (take (item - 1) items))
before_item (Err fault) item = 0

-- the numbers of the transactions that an edit edits: all that it puts behind the others; that of the item which it changes; or
-- all of a text that it replaces. Where a change puts no entry or several into the place of its item the numbers behind it are others'
-- in the two texts: no bound speaks of such an edit by them but the one of what it checks.
abbrev pub is_edited_by : Journal → Edit → ℕ → Bool
is_edited_by j (Add entry) n = nat_le (length (written_in j.year j.text)) n
is_edited_by j (Change base item entry) n = n == before_item (reading_in j.year j.text) item
is_edited_by j (Replace base text) n = true

-- an edit of a journal as one of its transactions, told by the text before it and the text after it
abbrev pub edit_made : Journal → Edit → walks.Edit
edit_made j edit = walks.edits_of (is_edited_by j edit) (written_in j.year j.text) (written_in j.year (applied j.text edit))
