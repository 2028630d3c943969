-- The bytes of a text's items.
use Rattle.std.specs.Prelude.{ℕ, List, [], ◌∷◌, map, take, drop}
use Rattle.hl_base.specs.declared.items.Piece.{Piece}
use Rattle.text_pieces.specs.declared.pieces.Pieces.{Pieces}

-- those of a piece of a text
abbrev pub bytes_of : List ℕ → Piece → List ℕ
bytes_of text piece = take piece.len (drop piece.at text)

-- what pieces take from the front of a text, one after another
abbrev pub cut_by : List Piece → List ℕ → List (List ℕ)
cut_by [] text = []
cut_by (piece ∷ pieces) text = take piece.len text ∷ cut_by pieces (drop piece.len text)

-- the bytes of the items that are still to come
abbrev pub pieces_left : Pieces → List (List ℕ)
pieces_left p = cut_by (map (λ q. q.piece) p.items.now) p.text.now
