-- The lines of a piece, and texts cut at bytes.
use Rattle.std.specs.Prelude.{ℕ, Bool, not, List, ◌==◌, nat_lt, map}
use Rattle.std.specs.List.{take_while, before_first, after_first, list_any}
use Rattle.hl_base.specs.Ascii.{line_feed}
pub use Rattle.hl_base.specs.Ascii.{first_is, begins, after_white, before_white, trimmed}
use Rattle.hl_base.specs.Lines.{lines_of}

-- the text begins with an ASCII byte
abbrev pub starts_ascii : List ℕ → Bool
starts_ascii text = first_is (λ b. nat_lt b 128) text

-- what stands before the first such byte, or all of the text
abbrev pub before_byte : ℕ → List ℕ → List ℕ
before_byte byte text = before_first (λ b. b == byte) text

-- what stands after the first such byte, or nothing
abbrev pub after_byte : ℕ → List ℕ → List ℕ
after_byte byte text = after_first (λ b. b == byte) text

abbrev pub has_byte : ℕ → List ℕ → Bool
has_byte byte text = list_any (λ b. b == byte) text

-- what a line says: all up to its LF, without the white space at its end
abbrev pub content_of : List ℕ → List ℕ
content_of line = before_white (take_while (λ b. not (b == line_feed)) line)

-- what the lines of a text say
abbrev pub contents_of : List ℕ → List (List ℕ)
contents_of text = map content_of (lines_of text)
