-- What is answered where a text is to be explained: nothing where it loads, and else its fault with the line and a sentence.
use Rattle.std.specs.Prelude.{ℕ, nat_lt, length, List, [], Option, Result, Ok, Err, if◌then◌else◌}
use Rattle.hl_base.specs.Items.{items_of}
use Rattle.hl_base.specs.Limits.{item_limit}
use Rattle.balancing.specs.Load.{load}
use Rattle.book.specs.declared.fault.Fault.{Fault}
use Rattle.book.specs.declared.item.Book.{Book}
use Rattle.book.specs.declared.item.Placed.{Placed}
use Rattle.explanations.specs.Explained.{explained}
use Rattle.journal_reader.specs.Items.{items_in}
use Rattle.refusals.specs.Errors.{fault_status, limit_line}
use Rattle.refusals.specs.Outcomes.{Judged, Outcome, refused, written}

-- the refusal of a text that has a fault: with the status that it has anyhow, and more lines
abbrev pub explained_fault : List ℕ → Fault → Outcome
explained_fault text fault = refused (fault_status fault.cause) (explained text fault)

abbrev pub explained_load : List ℕ → Result Book Fault → Judged
explained_load text (Ok book) = Ok (written [])
explained_load text (Err fault) = Err (explained_fault text fault)

abbrev pub explained_read : List ℕ → Result (List Placed) Fault → Judged
explained_read text (Ok items) = explained_load text (load items)
explained_read text (Err fault) = Err (explained_fault text fault)

-- its items are counted first; then it is read, with a year for dates without one, and loaded
abbrev pub explained_text : Option ℕ → List ℕ → Judged
explained_text year text =
    if nat_lt item_limit (length (items_of text)) then Err (refused 7 (limit_line (length (items_of text)) item_limit))
    else explained_read text (items_in year text)
