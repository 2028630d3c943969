-- How far the last piece of a text goes on in bytes that are put behind the text, and what the others say.
use Rattle.std.specs.Prelude.{◌≡◌, ℕ, ◌+◌, ◌≤◌, Bool, true, false, ◌&&◌, ◌||◌, not, List, [], ◌∷◌, ◌==◌, nat_lt, Option, Some, None, Result, Ok, Err, if◌then◌else◌, length, take, drop, slice_index}
use Rattle.std.specs.Str.{is_utf8}
use Rattle.hl_base.specs.Ascii.{line_feed}
use Rattle.hl_base.specs.Items.{items_of}
use Rattle.hl_base.specs.Limits.{entry_limit, text_limit}
use Rattle.hl_base.specs.Pieces.{bytes_left, lines_left}
pub use Rattle.hl_base.specs.Pieces.{shifted}
use Rattle.hl_base.specs.declared.items.Kind.{Kind}
use Rattle.hl_base.specs.declared.items.Kind.TheVariants as kinds
use Rattle.hl_base.specs.declared.items.Piece.{Piece}
use Rattle.book.specs.declared.fault.Cause.TheVariants as cause
use Rattle.book.specs.declared.fault.Fault.{Fault}
use Rattle.book.specs.declared.item.Placed.{Placed}
use Rattle.entry_reader.specs.After.{context_after}
use Rattle.entry_reader.specs.Causes.{fault_at, ◌>>=◌}
use Rattle.entry_reader.specs.Contexts.{Context}
use Rattle.journal_reader.specs.Items.{broken_line, reading}
use Rattle.text_ends.specs.declared.kept.KeptEnd.{KeptEnd}
use Rattle.text_ends.specs.declared.reading.Grown.{Grown}

-- ---- how far the last piece goes

-- a last piece of the kind takes lines of what is behind the text: remarks, or all through the line that ends a block
abbrev pub joins : Kind → Bool → Bool
joins kinds.Gap unclosed = true
joins kinds.Block unclosed = unclosed
joins kinds.Entry unclosed = false
joins kinds.Head unclosed = false
joins kinds.Stray unclosed = false

-- the line's end that a text lacks, in bytes
abbrev pub lacked : Bool → ℕ
lacked ended = if ended then 0 else 1

abbrev pub lines_joined : KeptEnd → List ℕ → Option Piece → ℕ
lines_joined e bytes None = 0
lines_joined e bytes (Some p) = if joins p.kind e.unclosed then lines_left p.kind bytes (lacked e.ended) else 0

abbrev pub bytes_joined : KeptEnd → List ℕ → Option Piece → ℕ
bytes_joined e bytes None = 0
bytes_joined e bytes (Some p) = lacked e.ended + (if joins p.kind e.unclosed then bytes_left p.kind bytes (lacked e.ended) else 0)

-- how many lines of the bytes the last piece takes, besides the LF that it lacks
abbrev pub lines_taken : KeptEnd → List ℕ → ℕ
lines_taken e bytes = lines_joined e bytes e.last

-- how many of the bytes it takes: the LF that it lacks; and then, if it is a gap, all remarks, and if it is a block without
-- its end, all through the line that ends it
abbrev pub taken : KeptEnd → List ℕ → ℕ
taken e bytes = bytes_joined e bytes e.last

-- ---- what may be put there

abbrev pub begins_empty : List ℕ → Bool
begins_empty bytes = slice_index bytes 0 == line_feed

-- the lines of a piece of the kind after its first one are indented
abbrev pub goes_indented : Kind → Bool
goes_indented kinds.Gap = false
goes_indented kinds.Block = false
goes_indented kinds.Entry = true
goes_indented kinds.Head = true
goes_indented kinds.Stray = true

abbrev pub begins_apart : Bool → List ℕ → Option Piece → Bool
begins_apart ended bytes None = true
begins_apart ended bytes (Some p) = (ended || begins_empty bytes) && (not (goes_indented p.kind) || begins_empty (drop (lacked ended) bytes))

-- The bytes begin with the LF that the text lacks; and where the last piece would take indented lines, an empty line follows.
abbrev pub goes_behind : KeptEnd → List ℕ → Bool
goes_behind e bytes = begins_apart e.ended bytes e.last

-- the bytes may be put behind a text of whose end this is kept, within the limit of a text
pub record MayStand (e : KeptEnd) (bytes : List ℕ) : Type 0 where
  pub few : e.bytes + length bytes ≤ text_limit
  pub lines : e.lines ≤ e.bytes
  pub goes : goes_behind e bytes ≡ true

-- ---- what is read

-- an entry or a directive
abbrev pub is_limited : Kind → Bool
is_limited kinds.Gap = false
is_limited kinds.Block = false
is_limited kinds.Entry = true
is_limited kinds.Head = true
is_limited kinds.Stray = false

-- the fault of the last piece, where it is too long with so many more bytes
abbrev pub outgrown : ℕ → Option Piece → Option Fault
outgrown more None = None
outgrown more (Some p) = if is_limited p.kind && nat_lt entry_limit (p.len + more) then Some (fault_at p.line cause.TooLong) else None

-- the line of the first byte behind the text
abbrev pub line_behind : KeptEnd → ℕ
line_behind e = e.lines + (if e.ended then 1 else 0)

-- the fault of what the last piece takes: it isn't UTF-8, or makes the piece too long
abbrev pub growth_fault : KeptEnd → List ℕ → Option Fault
growth_fault e bytes =
    let more = take (taken e bytes) bytes in
    if is_utf8 more then outgrown (taken e bytes) e.last else Some (fault_at (broken_line (line_behind e) more) cause.Encoding)

-- what pieces of bytes say behind so many bytes and lines, each in the context of all items before it
unfoldable pub read_on : Context → ℕ → ℕ → List ℕ → List Piece → Result (List Placed) Fault
read_on context at lines bytes [] = Ok []
read_on context at lines bytes (p ∷ ps) = do
  i ← reading context (lines + p.line) (take p.len (drop p.at bytes))
  more ← read_on (context_after context i) at lines bytes ps
  Ok (record { piece = shifted at lines p; item = i } ∷ more)

-- the bytes that the last piece doesn't take
abbrev pub rest_of : KeptEnd → List ℕ → List ℕ
rest_of e bytes = drop (taken e bytes) bytes

abbrev pub read_rest : KeptEnd → List ℕ → Result (List Placed) Fault
read_rest e bytes = read_on e.context (e.bytes + taken e bytes) (e.lines + lines_taken e bytes) (rest_of e bytes) (items_of (rest_of e bytes))

abbrev pub unless_fault : {A : Type 0} → Option Fault → Result A Fault → Result A Fault
unless_fault None r = r
unless_fault (Some fault) r = Err fault

abbrev pub grown_with : KeptEnd → List ℕ → List Placed → Grown
grown_with e bytes items = record { taken = taken e bytes; lines = lines_taken e bytes; items = items }

-- What bytes come to that are put behind a text of which this is kept: how many of them, and how many of their lines, its last
-- piece takes, and the items behind it; or the fault of the whole.
abbrev pub put_behind : KeptEnd → List ℕ → Result Grown Fault
put_behind e bytes = unless_fault (growth_fault e bytes) (read_rest e bytes >>= λ items. Ok (grown_with e bytes items))
