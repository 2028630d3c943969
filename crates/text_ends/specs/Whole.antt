-- What is kept of a text's end once bytes stand behind it.
use Rattle.std.specs.Prelude.{◌≡◌, ℕ, ◌+◌, ◌-◌, ◌≤◌, Bool, ◌&&◌, not, List, ◌==◌, Option, Some, None, IfSome, Ok, if◌then◌else◌, length, drop}
use Rattle.std.specs.List.{list_any}
use Rattle.hl_base.specs.Items.{closes_block}
use Rattle.hl_base.specs.Lines.{lines_of}
use Rattle.hl_base.specs.declared.items.Kind.{Kind}
use Rattle.hl_base.specs.declared.items.Piece.{Piece}
use Rattle.book.specs.declared.item.Placed.{Placed}
use Rattle.text_ends.specs.Ends.{ends_line, is_block, last_of}
use Rattle.text_ends.specs.Going.{longer}
use Rattle.text_ends.specs.Growth.{MayStand, lacked}
use Rattle.text_ends.specs.Told.{told_behind}
use Rattle.text_ends.specs.declared.kept.KeptEnd.{KeptEnd}
use Rattle.text_ends.specs.declared.reading.Grown.{Grown}

-- the last piece of the whole: that of the last item behind the text, or else the text's own, longer
abbrev pub last_behind : Option Placed → ℕ → Option Piece → Option Piece
last_behind (Some placed) more last = Some placed.piece
last_behind None more None = None
last_behind None more (Some p) = Some (longer more p)

-- the whole ends with LF
abbrev pub ended_behind : Bool → List ℕ → Bool
ended_behind ended bytes = if length bytes == 0 then ended else ends_line bytes

-- a piece of the kind at the byte is a block, and no line from there on ends it
abbrev pub is_open : List ℕ → ℕ → Kind → Bool
is_open text at kind = is_block kind && not (list_any closes_block (lines_of (drop at text)))

-- the last piece of the whole is a block without its end
abbrev pub unclosed_behind : KeptEnd → List ℕ → Option Placed → Bool
unclosed_behind e bytes (Some placed) = is_open bytes (placed.piece.at - e.bytes) placed.piece.kind
unclosed_behind e bytes None = e.unclosed && not (list_any closes_block (lines_of (drop (lacked e.ended) bytes)))

-- what is kept of the whole, where this is kept of the text and the bytes behind it come to this
abbrev pub end_behind : KeptEnd → List ℕ → Grown → KeptEnd
end_behind e bytes g = record {
  last = last_behind (last_of g.items) g.taken e.last;
  ended = ended_behind e.ended bytes;
  unclosed = unclosed_behind e bytes (last_of g.items);
  lines = e.lines + g.lines + length (lines_of (drop g.taken bytes));
  bytes = e.bytes + length bytes;
  context = e.context;
}

-- there are no more lines than bytes, and the last piece has no more
pub record IsMeasured (e : KeptEnd) : Type 0 where
  pub lines : e.lines ≤ e.bytes
  pub last : IfSome e.last (λ p. p.len ≤ e.bytes)

-- the bytes may be put behind the text of whose end this is kept, and this is what they come to there
pub record ComesTo (e : KeptEnd) (bytes : List ℕ) (g : Grown) : Type 0 where
  pub may : MayStand e bytes
  pub measured : IsMeasured e
  pub told : told_behind e bytes ≡ Ok (Some g)
