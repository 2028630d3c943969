-- What is told of bytes behind a text without a context that changes: all, unless they have a directive.
use Rattle.std.specs.Prelude.{◌≡◌, ℕ, ◌+◌, Bool, true, false, List, [], ◌∷◌, ◌++◌, Option, Some, None, IfSome, Result, Ok, Err, if◌then◌else◌, take, drop, length, ◌<◌, ◌≤◌, ◌^◌}
use Rattle.std.specs.List.{AllByRecursion}
use Rattle.hl_base.specs.Items.{items_of}
use Rattle.hl_base.specs.Pieces.{bytes_left, lines_left}
use Rattle.hl_base.specs.declared.items.Kind.{Kind}
use Rattle.hl_base.specs.declared.items.Kind.TheVariants as kinds
use Rattle.hl_base.specs.declared.items.Piece.{Piece}
use Rattle.book.specs.declared.fault.Cause.TheVariants as cause
use Rattle.book.specs.declared.fault.Fault.{Fault}
use Rattle.book.specs.declared.item.Item.{Item}
use Rattle.book.specs.declared.item.Item.TheVariants as item
use Rattle.book.specs.declared.item.Placed.{Placed}
use Rattle.entry_reader.specs.Causes.{cause_in, fault_at, ◌>>=◌}
use Rattle.entry_reader.specs.Contexts.{Context}
use Rattle.entry_reader.specs.declared.fault.ReadFault.{ReadFault}
use Rattle.journal_reader.specs.Items.{broken_line, reading}
use Rattle.std.specs.Str.{is_utf8}
use Rattle.text_ends.specs.Growth.{growth_fault, grown_with, joins, lines_taken, outgrown, line_behind, rest_of, shifted, taken, unless_fault}
use Rattle.text_ends.specs.declared.kept.KeptEnd.{KeptEnd}
use Rattle.text_ends.specs.declared.reading.Grown.{Grown}
use Rattle.text_ends.specs.declared.taking.Reach.{Reach}

-- what a piece of the kind takes of the bytes from a place on
abbrev pub taken_from : List ℕ → ℕ → Kind → Bool → Reach
taken_from bytes start kind unclosed =
    if joins kind unclosed then record { bytes = start + bytes_left kind bytes start; lines = lines_left kind bytes start }
    else record { bytes = start; lines = 0 }

-- a directive may change what is read after it
abbrev pub is_directive : Item → Bool
is_directive (item.Directive d) = true
is_directive _ = false

-- a piece of the kind may be a directive
abbrev pub is_head : Kind → Bool
is_head kinds.Head = true
is_head kinds.Gap = false
is_head kinds.Block = false
is_head kinds.Entry = false
is_head kinds.Stray = false

-- an item before others, where they are told
abbrev pub onto_told : Placed → Option (List Placed) → Option (List Placed)
onto_told placed None = None
onto_told placed (Some more) = Some (placed ∷ more)

-- what pieces of bytes say behind so many bytes and lines, in one context; nothing where one of them is a directive
unfoldable pub told_on : Context → ℕ → ℕ → List ℕ → List Piece → Result (Option (List Placed)) Fault
told_on context at lines bytes [] = Ok (Some [])
told_on context at lines bytes (p ∷ ps) = do
  i ← reading context (lines + p.line) (take p.len (drop p.at bytes))
  if is_directive i then Ok None else (told_on context at lines bytes ps >>= λ more. Ok (onto_told (record { piece = shifted at lines p; item = i }) more))

abbrev pub told_rest : KeptEnd → List ℕ → Result (Option (List Placed)) Fault
told_rest e bytes = told_on e.context (e.bytes + taken e bytes) (e.lines + lines_taken e bytes) (rest_of e bytes) (items_of (rest_of e bytes))

abbrev pub grown_told : KeptEnd → List ℕ → Option (List Placed) → Option Grown
grown_told e bytes None = None
grown_told e bytes (Some items) = Some (grown_with e bytes items)

-- What bytes come to behind a text of which this is kept, or the fault of the whole; nothing where a directive stands in them,
-- before any fault.
abbrev pub told_behind : KeptEnd → List ℕ → Result (Option Grown) Fault
told_behind e bytes = unless_fault (growth_fault e bytes) (told_rest e bytes >>= λ items. Ok (grown_told e bytes items))

-- all of it is told
abbrev pub as_told : Result Grown Fault → Result (Option Grown) Fault
as_told (Ok grown) = Ok (Some grown)
as_told (Err fault) = Err fault

-- what is told is so; of bytes with a directive nothing is told
abbrev pub IsSo : Result (Option Grown) ReadFault → Result Grown Fault → Type 0
IsSo (Ok None) r = Unit {0}
IsSo (Ok (Some grown)) r = r ≡ Ok grown
IsSo (Err e) r = IfSome (cause_in e) (λ fault. r ≡ Err fault)

-- ---- parts of it

-- items before others, where these are told
abbrev pub before_told : List Placed → Option (List Placed) → Option (List Placed)
before_told front None = None
before_told front (Some more) = Some (front ++ more)

abbrev pub before_read : List Placed → Result (Option (List Placed)) Fault → Result (Option (List Placed)) Fault
before_read front (Ok more) = Ok (before_told front more)
before_read front (Err fault) = Err fault

-- the fault of bytes that aren't UTF-8, of which the first is in the line-th line
abbrev pub utf8_fault : ℕ → List ℕ → Option Fault
utf8_fault line bytes = if is_utf8 bytes then None else Some (fault_at (broken_line line bytes) cause.Encoding)

-- the fault of what the last piece takes
abbrev pub fault_of_growth : KeptEnd → List ℕ → Option Fault
fault_of_growth e more = if is_utf8 more then outgrown (length more) e.last else Some (fault_at (broken_line (line_behind e) more) cause.Encoding)

-- each piece lies in the bytes, and behind so many bytes and lines its place and its lines have numbers below 2^64
abbrev pub AreInside : ℕ → ℕ → List ℕ → List Piece → Type 0
AreInside at lines bytes pieces =
    AllByRecursion (λ p. (p.at + p.len ≤ length bytes) × (lines + p.line + p.len < 2 ^ 64) × (at + p.at < 2 ^ 64)) pieces

abbrev pub grown_by : Reach → Option (List Placed) → Option Grown
grown_by t None = None
grown_by t (Some items) = Some (record { taken = t.bytes; lines = t.lines; items = items })

-- what bytes come to behind a last piece that takes so many and reads with them
abbrev pub put_rest : KeptEnd → Reach → List ℕ → Result (Option Grown) Fault
put_rest e t rest = told_on e.context (e.bytes + t.bytes) (e.lines + t.lines) rest (items_of rest) >>= λ items. Ok (grown_by t items)
