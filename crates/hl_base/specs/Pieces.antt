-- How far a piece goes.
use Rattle.std.specs.Prelude.{ℕ, ◌+◌, ◌≤◌, Bool, true, false, List, length, take, drop}
use Rattle.std.specs.List.{concat, sum_by}
use Rattle.hl_base.specs.declared.items.Kind.{Kind}
use Rattle.hl_base.specs.declared.items.Kind.TheVariants.{Gap, Block, Entry, Head, Stray}
use Rattle.hl_base.specs.declared.items.Piece.{Piece}
use Rattle.hl_base.specs.Lines.{lines_of}
use Rattle.hl_base.specs.Items.{is_remark, is_indented, closes_block, lines_more}

-- The piece lies in a text of so many bytes, and the numbers of its lines don't pass its end.
pub record IsWithin (size : ℕ) (piece : Piece) : Type 0 where
  pub bytes : piece.at + piece.len ≤ size
  pub lines : piece.line + piece.len ≤ size + 1

-- the piece is an entry
abbrev pub is_entry : Kind → Bool
is_entry Entry = true
is_entry Gap = false
is_entry Block = false
is_entry Head = false
is_entry Stray = false

-- a piece of what is put behind so many bytes and lines
abbrev pub shifted : ℕ → ℕ → Piece → Piece
shifted at lines p = record { at = at + p.at; len = p.len; line = lines + p.line; kind = p.kind }

-- the bytes of some pieces
abbrev pub bytes_in : List Piece → ℕ
bytes_in pieces = sum_by (λ p. p.len) pieces

-- the bytes of the first n lines
abbrev pub span : ℕ → List (List ℕ) → ℕ
span n ls = length (concat (take n ls))

-- a line that a piece of the kind may take
abbrev pub goes_on : Kind → List ℕ → Bool
goes_on Gap l = is_remark l
goes_on Block l = true
goes_on Entry l = is_indented l
goes_on Head l = is_indented l
goes_on Stray l = is_indented l

-- a line that is the last of such a piece
abbrev pub closes : Kind → List ℕ → Bool
closes Gap l = false
closes Block l = closes_block l
closes Entry l = false
closes Head l = false
closes Stray l = false

-- how many lines a piece still takes, and how many bytes, from a place on
abbrev pub lines_left : Kind → List ℕ → ℕ → ℕ
lines_left k text at = lines_more k (lines_of (drop at text))

abbrev pub bytes_left : Kind → List ℕ → ℕ → ℕ
bytes_left k text at = span (lines_left k text at) (lines_of (drop at text))
