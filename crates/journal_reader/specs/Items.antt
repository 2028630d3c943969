-- What the pieces of a text say.
use Rattle.std.specs.Prelude.{ℕ, ◌+◌, ◌==◌, List, [], ◌∷◌, ◌++◌, nat_lt, Option, Result, Ok, Err, if◌then◌else◌, length, take, drop, count_by}
use Rattle.std.specs.Str.{is_utf8}
use Rattle.std.specs.Str.Lossy.{utf8_valid_len}
use Rattle.hl_base.specs.Ascii.{line_feed}
use Rattle.hl_base.specs.Lines.{first_line}
use Rattle.hl_base.specs.Items.{kind_of, items_of}
use Rattle.hl_base.specs.declared.items.Kind.{Kind}
use Rattle.hl_base.specs.declared.items.Kind.TheVariants as kinds
use Rattle.hl_base.specs.declared.items.Piece.{Piece}
use Rattle.hl_base.specs.Limits.{entry_limit}
use Rattle.book.specs.declared.item.Item.{Item}
use Rattle.book.specs.declared.item.Item.TheVariants as item
use Rattle.book.specs.declared.item.Placed.{Placed}
use Rattle.book.specs.declared.fault.Fault.{Fault}
use Rattle.book.specs.declared.fault.Cause.TheVariants as cause
use Rattle.entry_reader.specs.Causes.{fault_at, ◌>>=◌}
use Rattle.entry_reader.specs.Contexts.{Context, context_of}
use Rattle.entry_reader.specs.Lines.{contents_of}
use Rattle.entry_reader.specs.Entries.{entry_of}
use Rattle.directive_reader.specs.Directives.{head_item}

-- what a piece of a kind says, in UTF-8
abbrev pub said_by : Kind → Context → ℕ → List ℕ → Result Item Fault
said_by kinds.Gap context line bytes = Ok item.Gap
said_by kinds.Block context line bytes = Ok item.Block
said_by kinds.Stray context line bytes = Err (fault_at line cause.Form)
said_by kinds.Entry context line bytes =
    if nat_lt entry_limit (length bytes) then Err (fault_at line cause.TooLong) else entry_of context line (contents_of bytes)
said_by kinds.Head context line bytes =
    if nat_lt entry_limit (length bytes) then Err (fault_at line cause.TooLong) else head_item context line (contents_of bytes)

-- the line of the first byte that isn't UTF-8
abbrev pub broken_line : ℕ → List ℕ → ℕ
broken_line line bytes = line + count_by (λ b. b == line_feed) (take (utf8_valid_len bytes) bytes)

-- What the bytes of a piece say, of which the first is in the line-th line. Bytes that aren't UTF-8 come before a piece
-- that is too long, and that before all else.
unfoldable pub reading : Context → ℕ → List ℕ → Result Item Fault
reading context line bytes =
    if is_utf8 bytes then said_by (kind_of (first_line bytes)) context line bytes
    else Err (fault_at (broken_line line bytes) cause.Encoding)

-- what the pieces of a text say, each in the context of all items before it, of which some stand before these pieces
unfoldable pub reading_from : Option ℕ → List Item → List ℕ → List Piece → Result (List Placed) Fault
reading_from year before text [] = Ok []
reading_from year before text (p ∷ ps) = do
  i ← reading (context_of year before) p.line (take p.len (drop p.at text))
  more ← reading_from year (before ++ i ∷ []) text ps
  Ok (record { piece = p; item = i } ∷ more)

-- the items of a text, or the fault of the first that doesn't read
abbrev pub items_in : Option ℕ → List ℕ → Result (List Placed) Fault
items_in year text = reading_from year [] text (items_of text)
