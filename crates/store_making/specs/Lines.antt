-- How it is said why a store of a journal isn't made or opened.
use Rattle.std.specs.Prelude.{ℕ, List}
use Rattle.book.specs.FaultLine.{fault_line}
use Rattle.error_lines.specs.Lines as lines
use Rattle.refusals.specs.Errors.{fault_status}
use Rattle.store_text.specs.Refusals.{line_of as store_line, status_of as store_status}
use Rattle.store_making.specs.declared.refusal.JournalRefusal.{JournalRefusal}
use Rattle.store_making.specs.declared.refusal.JournalRefusal.TheVariants as making

abbrev pub status_of : JournalRefusal → ℕ
status_of (making.Store r) = store_status r
status_of (making.Load fault) = fault_status fault.cause
status_of (making.TooLarge limit size) = 7
status_of making.Memory = 6

-- the line, of a store of this name
abbrev pub line_of : List ℕ → JournalRefusal → List ℕ
line_of name (making.Store r) = store_line name r
line_of name (making.Load fault) = fault_line fault
line_of name (making.TooLarge limit size) = lines.past_limit size limit
line_of name making.Memory = lines.memory
