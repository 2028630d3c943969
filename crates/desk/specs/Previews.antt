-- What a dry run of an edit shows.
use Rattle.std.specs.Prelude.{ℕ, List, [], ◌∷◌, ◌++◌, ◌==◌, drop, length, if◌then◌else◌, codes}
use Rattle.std.specs.Fmt.{decimal}
use Rattle.hl_base.specs.Ascii.{line_feed}

-- bytes without the line ends at their front
abbrev pub past_line_ends : List ℕ → List ℕ
past_line_ends [] = []
past_line_ends (byte ∷ bytes) = if byte == line_feed then past_line_ends bytes else byte ∷ bytes

-- what a text has after an earlier one, without the blank line before it
abbrev pub added_to : List ℕ → List ℕ → List ℕ
added_to old new = past_line_ends (drop (length old) new)

-- the line of an edit that makes a revision
abbrev pub revision_line : ℕ → List ℕ
revision_line revision = codes "revision " ++ decimal revision ++ (line_feed ∷ [])
