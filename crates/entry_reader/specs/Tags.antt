-- The tags of comments.
use Rattle.std.specs.Prelude.{ℕ, suc, zero, ◌-◌, not, List, [], ◌∷◌, ◌++◌, ◌==◌, if◌then◌else◌, length, drop}
use Rattle.std.specs.List.{suffix_len}
use Rattle.hl_base.specs.Ascii.{colon, comma}
use Rattle.hl_base.specs.Items.{is_white}
use Rattle.book.specs.declared.transaction.Tag.{Tag}
use Rattle.entry_reader.specs.Lines.{trimmed, before_byte, after_byte, has_byte}

-- the word at a text's end, which white space doesn't interrupt
abbrev pub last_word : List ℕ → List ℕ
last_word text = drop (length text - suffix_len (λ b. not (is_white b)) text) text

-- the word directly before the first colon
abbrev pub tag_name : List ℕ → List ℕ
tag_name text = last_word (before_byte colon text)

-- what stands after the first colon, up to the next comma
abbrev pub tag_value : List ℕ → List ℕ
tag_value text = trimmed (before_byte comma (after_byte colon text))

-- the tag of the first colon: a word directly before it, with all up to the next comma; none where no word stands there
abbrev pub tag_at : List ℕ → List Tag
tag_at text = if length (tag_name text) == 0 then [] else record { name = tag_name text; value = tag_value text } ∷ []

-- what follows that tag's comma, or the colon alone
abbrev pub after_tag : List ℕ → List ℕ
after_tag text = if length (tag_name text) == 0 then after_byte colon text else after_byte comma (after_byte colon text)

-- the tags of a text, of which at most n are sought
unfoldable pub tags_within : ℕ → List ℕ → List Tag
tags_within zero text = []
tags_within (suc n) text = if has_byte colon text then tag_at text ++ tags_within n (after_tag text) else []

-- the tags of a comment's line
abbrev pub tags_of : List ℕ → List Tag
tags_of text = tags_within (length text) text
