-- Texts without the white space and the line ends at their ends.
use Rattle.std.specs.Prelude.{ℕ, ◌-◌, Bool, ◌||◌, ◌==◌, List, length, take, drop}
use Rattle.std.specs.List.{prefix_len, suffix_len}
use Rattle.hl_base.specs.Ascii.{line_feed}
use Rattle.hl_base.specs.Items.{is_white}

-- white space, or the end of a line
abbrev pub is_space : ℕ → Bool
is_space b = is_white b || (b == line_feed)

-- the text without what is white at its front
abbrev pub after_space : List ℕ → List ℕ
after_space text = drop (prefix_len is_space text) text

-- the text without what is white at its end
abbrev pub before_space : List ℕ → List ℕ
before_space text = take (length text - suffix_len is_space text) text

-- the text without white space and line ends at both ends
abbrev pub stripped : List ℕ → List ℕ
stripped text = before_space (after_space text)
