-- What is answered to a text that has to load first.
use Rattle.std.specs.Prelude.{ℕ, List, nat_lt, Option, Result, Ok, Err, if◌then◌else◌, length}
use Rattle.hl_base.specs.Items.{items_of}
use Rattle.hl_base.specs.Limits.{item_limit}
use Rattle.book.specs.declared.fault.Fault.{Fault}
use Rattle.book.specs.declared.item.Book.{Book}
use Rattle.book.specs.declared.item.Placed.{Placed}
use Rattle.book.specs.FaultLine.{fault_line}
use Rattle.balancing.specs.Load.{load}
use Rattle.journal_reader.specs.Items.{items_in}
use Rattle.refusals.specs.Errors.{fault_status, limit_line}
use Rattle.refusals.specs.Outcomes.{Judged, Outcome, refused}

-- what is answered over the items of a text and their book
abbrev pub Making : Type 0
Making = List Placed → Book → Outcome

-- the refusal of a text that has a fault
abbrev pub fault_refusal : Fault → Outcome
fault_refusal fault = refused (fault_status fault.cause) (fault_line fault)

abbrev pub made_loaded : Making → List Placed → Result Book Fault → Judged
made_loaded make items (Ok book) = Ok (make items book)
made_loaded make items (Err fault) = Err (fault_refusal fault)

abbrev pub made_read : Making → Result (List Placed) Fault → Judged
made_read make (Ok items) = made_loaded make items (load items)
made_read make (Err fault) = Err (fault_refusal fault)

-- What is answered to a text that was read, or the refusal of the text: its items are counted first; then it is read, with a
-- year for dates without one, if there is one, and loaded.
abbrev pub judged_text : Making → Option ℕ → List ℕ → Judged
judged_text make year text =
    if nat_lt item_limit (length (items_of text)) then Err (refused 7 (limit_line (length (items_of text)) item_limit))
    else made_read make (items_in year text)
