-- How a text is cut into items.
use Rattle.std.specs.Prelude.{ℕ, ◌+◌, Bool, true, false, ◌&&◌, ◌||◌, not, List, [], ◌∷◌, ◌==◌, nat_eq, if◌then◌else◌, length, take, drop, take_while, codes, suc, zero, Option, Some, None}
use Rattle.std.specs.List.{starts_with, list_all, concat, find}
use Rattle.hl_base.specs.declared.items.Kind.{Kind}
use Rattle.hl_base.specs.declared.items.Kind.TheVariants.{Gap, Block, Entry, Head, Stray}
use Rattle.hl_base.specs.declared.items.Piece.{Piece}
use Rattle.hl_base.specs.Ascii.{line_feed, semicolon, hash, asterisk}
use Rattle.hl_base.specs.Lines.{lines_of}
pub use Rattle.hl_base.specs.Ascii.{is_white, is_digit}

-- it holds only white space and its end
abbrev pub is_blank : List ℕ → Bool
is_blank line = list_all (λ b. is_white b || (b == line_feed)) line

-- it begins with white space and isn't blank
abbrev pub is_indented : List ℕ → Bool
is_indented [] = false
is_indented (b ∷ bs) = is_white b && not (is_blank bs)

-- the first byte after white space ends the line or marks a remark, or there is none
abbrev pub marks_remark : Option ℕ → Bool
marks_remark None = true
marks_remark (Some b) = (b == line_feed) || (b == semicolon) || (b == hash) || (b == asterisk)

-- it is blank, or its first character after white space is `;`, `#` or `*`
abbrev pub is_remark : List ℕ → Bool
is_remark line = marks_remark (find (λ b. not (is_white b)) line)

-- it is this word but for white space at its end
abbrev pub is_word : List ℕ → List ℕ → Bool
is_word word line = starts_with nat_eq line word && is_blank (drop (length word) line)

-- it begins with a digit
abbrev pub begins_entry : List ℕ → Bool
begins_entry [] = false
begins_entry (b ∷ bs) = is_digit b

abbrev pub opens_block : List ℕ → Bool
opens_block = is_word (codes "comment")

abbrev pub closes_block : List ℕ → Bool
closes_block = is_word (codes "end comment")

-- what a piece is that begins with the line: the first kind that fits
abbrev pub kind_of : List ℕ → Kind
kind_of line =
    if opens_block line then Block
    else if is_remark line then Gap
    else if is_indented line then Stray
    else if begins_entry line then Entry
    else Head

-- how many lines there are through the first that closes a block, or all of them
abbrev pub lines_to_close : List (List ℕ) → ℕ
lines_to_close [] = 0
lines_to_close (l ∷ ls) = if closes_block l then 1 else lines_to_close ls + 1

-- how many of the lines after its first one a piece takes
abbrev pub lines_more : Kind → List (List ℕ) → ℕ
lines_more Block ls = lines_to_close ls
lines_more Gap ls = length (take_while is_remark ls)
lines_more Entry ls = length (take_while is_indented ls)
lines_more Head ls = length (take_while is_indented ls)
lines_more Stray ls = length (take_while is_indented ls)

-- The pieces of some lines, of which the first few belong to the piece before. The first line begins at the
-- byte at and is the line-th.
abbrev pub cut_from : ℕ → ℕ → ℕ → List (List ℕ) → List Piece
cut_from taken at line [] = []
cut_from (suc taken) at line (l ∷ ls) = cut_from taken (at + length l) (line + 1) ls
cut_from zero at line (l ∷ ls) =
    let more = lines_more (kind_of l) ls in
    record { at = at; len = length l + length (concat (take more ls)); line = line; kind = kind_of l } ∷ cut_from more (at + length l) (line + 1) ls

-- The items of a text: from the front, the next piece is the first kind that fits.
abbrev pub items_of : List ℕ → List Piece
items_of text = cut_from 0 0 1 (lines_of text)
