-- Where the pieces of a text lie.
use Rattle.std.specs.Prelude.{ℕ, ◌+◌, ◌<◌, ◌≤◌, ◌^◌, List, length, take, drop}
use Rattle.std.specs.List.{AllByRecursion}
use Rattle.hl_base.specs.declared.items.Piece.{Piece}
use Rattle.entry_reader.specs.Lines.{contents_of}

-- each piece lies in the text, and its lines have numbers below 2^64
abbrev pub AreWithin : List ℕ → List Piece → Type 0
AreWithin text pieces = AllByRecursion (λ p. (p.at + p.len ≤ length text) × (p.line + length (contents_of (take p.len (drop p.at text))) < 2 ^ 64)) pieces
