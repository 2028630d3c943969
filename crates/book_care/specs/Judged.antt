-- Why no entry can be written.
use Rattle.std.specs.Prelude.{◌≡◌, not, nat_lt, Bool, List, Option, Some, None, is_some, if◌then◌else◌}
use Rattle.std.specs.List.{find}
use Rattle.std.specs.Option.{option_map, option_or}
use Rattle.entry_reader.specs.Contexts.{Context}
use Rattle.book_care.specs.Asked.{Asked}
use Rattle.book_care.specs.Declarations.{is_filled}
use Rattle.book_care.specs.Late.{At, first_late}
use Rattle.book_care.specs.Lines.{Moved, closing_lines}
use Rattle.book_care.specs.Reads.{context_at_end, reads_back}
use Rattle.book_care.specs.declared.faults.CloseFault.{CloseFault}
use Rattle.book_care.specs.declared.faults.CloseFault.TheVariants as faults

abbrev pub late_fault : At → CloseFault
late_fault at = faults.Later at.1.line (record { 0 = at.0.day })

-- a posting is after the day of the closing entry: the first by place
abbrev pub later : Asked → Option CloseFault
later asked = option_map late_fault (first_late asked.on asked.txns)

-- an account doesn't read back at the end of the text
abbrev pub renamed : Context → List Moved → Option CloseFault
renamed context lines =
    option_map (λ moved. faults.Renamed moved.account) (find (λ moved. not (reads_back context moved.account)) lines)

-- a symbol is empty, and the text ends with a default commodity
abbrev pub is_bare : Moved → Bool
is_bare moved = not (is_filled moved.symbol)

abbrev pub bare : Context → List Moved → Option CloseFault
bare context lines =
    if is_some context.usual then option_map (λ moved. faults.Bare moved.account) (find is_bare lines) else None

-- an amount has more than 18 decimals
abbrev pub is_fine : Moved → Bool
is_fine moved = nat_lt 18 moved.value.places

abbrev pub fine : List Moved → Option CloseFault
fine lines = option_map (λ moved. faults.Fine moved.account moved.symbol) (find is_fine lines)

-- what is wrong with the lines of an entry at the end of a text, in this order
abbrev pub line_fault : Context → List Moved → Option CloseFault
line_fault context lines = option_or (renamed context lines) (option_or (bare context lines) (fine lines))

-- what is wrong with the lines of the closing entry
abbrev pub closing_fault : Asked → Option CloseFault
closing_fault asked = line_fault (context_at_end asked.items) (closing_lines asked)

-- the first of the four causes
abbrev pub first_cause : Asked → Option CloseFault
first_cause asked = option_or (later asked) (closing_fault asked)

-- a fault is the one that is told; want of memory says nothing
abbrev pub IsFault : Option CloseFault → CloseFault → Type 0
IsFault told faults.Memory = Unit {0}
IsFault told fault = told ≡ Some fault
