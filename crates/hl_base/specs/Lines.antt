-- The lines of a text.
use Rattle.std.specs.Prelude.{ℕ, ◌-◌, Bool, ◌&&◌, not, List, [], ◌∷◌, ◌==◌, nat_lt, if◌then◌else◌, length, take_while, slice_index}
use Rattle.hl_base.specs.Ascii.{line_feed, carriage_return}

-- a byte before the first of some lines
abbrev pub onto : ℕ → List (List ℕ) → List (List ℕ)
onto b [] = (b ∷ []) ∷ []
onto b (l ∷ ls) = (b ∷ l) ∷ ls

-- The lines of a text, each with the LF that ends it; the last one perhaps without.
abbrev pub lines_of : List ℕ → List (List ℕ)
lines_of [] = []
lines_of (b ∷ bs) = if b == line_feed then (b ∷ []) ∷ lines_of bs else onto b (lines_of bs)

-- the first line of a text, with the LF that ends it
abbrev pub first_line : List ℕ → List ℕ
first_line [] = []
first_line (b ∷ bs) = if b == line_feed then b ∷ [] else b ∷ first_line bs

-- how many bytes the content of a text's first line has: up to the LF, and without a CR directly before that
abbrev pub content_length : List ℕ → ℕ
content_length text =
    let before = length (take_while (λ b. not (b == line_feed)) text) in
    if nat_lt 0 before && (slice_index text (before - 1) == carriage_return) then before - 1 else before

-- the text ends with LF
abbrev pub ends_line : List ℕ → Bool
ends_line text = slice_index text (length text - 1) == line_feed
