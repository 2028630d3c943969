-- What is put behind a text where an entry is added to it.
use Rattle.std.specs.Prelude.{ℕ, ◌||◌, List, [], ◌∷◌, ◌++◌, ◌==◌, if◌then◌else◌, length, codes}
use Rattle.hl_base.specs.Ascii.{line_feed}
use Rattle.hl_base.specs.Items.{items_of}
use Rattle.text_ends.specs.Ends.{ends_line, is_unclosed, last_of}

-- the LF that a text lacks: it isn't empty, and doesn't end with one
abbrev pub line_end : List ℕ → List ℕ
line_end text = if (length text == 0) || ends_line text then [] else line_feed ∷ []

abbrev pub ended : List ℕ → List ℕ
ended text = text ++ line_end text

-- the line that ends a block which was left open
abbrev pub block_end : List ℕ → List ℕ
block_end text = if is_unclosed text (last_of (items_of text)) then codes "end comment" ++ (line_feed ∷ []) else []

-- the blank line between a text that isn't empty and what is added to it
abbrev pub blank_line : List ℕ → List ℕ
blank_line text = if length text == 0 then [] else line_feed ∷ []

-- what is put behind a text where an entry is added to it
abbrev pub added : List ℕ → List ℕ → List ℕ
added text entry = line_end text ++ block_end text ++ blank_line text ++ ended entry
