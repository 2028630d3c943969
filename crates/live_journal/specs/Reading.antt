-- What bytes come to that an edit puts behind the text of a journal.
use Rattle.std.specs.Prelude.{ℕ, Bool, true, false, List, Option, Some, None, Result, Ok, Err}
use Rattle.book.specs.Postings.{postings_of}
use Rattle.book.specs.declared.fault.Fault.{Fault}
use Rattle.book.specs.declared.item.Book.{Book}
use Rattle.book.specs.declared.item.Placed.{Placed}
use Rattle.entry_balance.specs.Entry.{moved}
use Rattle.text_ends.specs.Ends.{end_of}
use Rattle.additions.specs.Asked.{has_assigned, last_asked}
use Rattle.additions.specs.Coming.{Coming, comes_to}
use Rattle.live_journal.specs.declared.edit.Edit.{Edit}
use Rattle.live_journal.specs.declared.edit.Edit.TheVariants.{Add, Change, Replace}
use Rattle.live_journal.specs.Edits.{added}
use Rattle.live_journal.specs.Journals.{Journal}
use Rattle.live_journal.specs.Loading.{book_of, reading_in}

-- what bytes come to behind a text that reads as these items and has this book; nothing is told of one that doesn't
abbrev pub coming_from : Option ℕ → List ℕ → Result (List Placed) Fault → Result Book Fault → List ℕ → Result (Option Coming) Fault
coming_from year text (Ok items) (Ok book) bytes = comes_to (end_of year text items) (last_asked book.txns) (has_assigned book.txns) (moved (postings_of book.txns)) bytes
coming_from year text (Ok items) (Err fault) bytes = Ok None
coming_from year text (Err fault) book bytes = Ok None

-- what an entry that is added comes to
abbrev pub coming_in : Journal → List ℕ → Result (Option Coming) Fault
coming_in j entry = coming_from j.year j.text (reading_in j.year j.text) (book_of j.year j.text) (added j.text entry)

-- it stands behind the book, and all other transactions stay what they are
abbrev pub stands_behind : Result (Option Coming) Fault → Bool
stands_behind (Ok (Some (g, Some txns))) = true
stands_behind (Ok (Some (g, None))) = false
stands_behind (Ok None) = false
stands_behind (Err fault) = false

-- it doesn't read, or doesn't balance where all other transactions would stay what they are
abbrev pub is_faulty : Result (Option Coming) Fault → Bool
is_faulty (Ok told) = false
is_faulty (Err fault) = true

-- An entry is added that leaves all other transactions of a journal as they are.
abbrev pub is_quiet : Journal → Edit → Bool
is_quiet j (Add entry) = stands_behind (coming_in j entry)
is_quiet j (Change base item entry) = false
is_quiet j (Replace base text) = false

-- An entry is added that has a fault of its own.
abbrev pub is_misread : Journal → Edit → Bool
is_misread j (Add entry) = is_faulty (coming_in j entry)
is_misread j (Change base item entry) = false
is_misread j (Replace base text) = false
