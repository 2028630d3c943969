-- Texts in columns.
use Rattle.std.specs.Prelude.{ℕ, ◌-◌, max, false, List, [], ◌∷◌, ◌++◌, replicate, chars}
use Rattle.hl_base.specs.Ascii.{space}
use Rattle.unicode_width.specs.Width.{str_width}

-- how many columns a text takes
abbrev pub width_of : List ℕ → ℕ
width_of text = str_width false (chars text)

-- the columns of the widest of some texts
abbrev pub widest : List (List ℕ) → ℕ
widest [] = 0
widest (text ∷ texts) = max (width_of text) (widest texts)

-- left aligned in a number of columns
abbrev pub left_aligned : ℕ → List ℕ → List ℕ
left_aligned width text = text ++ replicate (width - width_of text) space

-- right aligned in a number of columns
abbrev pub right_aligned : ℕ → List ℕ → List ℕ
right_aligned width text = replicate (width - width_of text) space ++ text
