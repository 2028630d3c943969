-- Texts in fields of a number of columns.
use Rattle.std.specs.Prelude.{ℕ, ◌-◌, nat_le, false, List, [], ◌∷◌, ◌++◌, unwrap_or, chars, codes, if◌then◌else◌}
use Rattle.std.specs.List.{flat_map}
use Rattle.std.specs.Char.{encode_utf8}
use Rattle.unicode_width.specs.Width.{char_width}
use Rattle.report_table.specs.Cells.{width_of}
use Rattle.report_table.specs.Tables.{left_aligned}

-- the columns of a character by itself; a control character takes one
abbrev pub columns_of : ℕ → ℕ
columns_of c = unwrap_or (char_width false c) 1

-- the first characters that have room, one after another
abbrev pub fitting : ℕ → List ℕ → List ℕ
fitting room [] = []
fitting room (c ∷ cs) = if nat_le (columns_of c) room then c ∷ fitting (room - columns_of c) cs else []

-- as much of a text as has room
abbrev pub cut : ℕ → List ℕ → List ℕ
cut room text = flat_map encode_utf8 (fitting room (chars text))

-- what has room in two columns less, and two points
abbrev pub shortened : ℕ → List ℕ → List ℕ
shortened width text = cut (width - 2) text ++ codes ".."

-- a text in a field, left aligned, and shortened where it is too wide
abbrev pub field : ℕ → List ℕ → List ℕ
field width text = left_aligned width (if nat_le (width_of text) width then text else shortened width text)
