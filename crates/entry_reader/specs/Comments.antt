-- Comments: the one on a line, and the indented lines after it that begin with `;`.
use Rattle.std.specs.Prelude.{ℕ, ◌+◌, Bool, ◌&&◌, List, [], ◌∷◌, ◌++◌, if◌then◌else◌, drop, codes, Option, Some, None, Result, Ok, Err, option_map}
use Rattle.std.specs.List.{flat_map, find}
use Rattle.std.specs.Str.{bytes_eq}
use Rattle.hl_base.specs.Ascii.{line_feed, semicolon}
use Rattle.hl_base.specs.Items.{is_white}
use Rattle.hl_time.specs.Date.{date_of}
use Rattle.hl_time.specs.declared.day.Day.{Day}
use Rattle.book.specs.declared.fault.Fault.{Fault}
use Rattle.book.specs.declared.fault.Cause.TheVariants.{Date}
use Rattle.book.specs.declared.transaction.Tag.{Tag}
use Rattle.entry_reader.specs.Causes.{fault_at}
use Rattle.entry_reader.specs.Lines.{first_is, begins, after_white, trimmed}
use Rattle.entry_reader.specs.Tags.{tags_of}

-- the content of an indented line whose first character after white space is `;`
abbrev pub is_comment : List ℕ → Bool
is_comment content = first_is is_white content && begins (after_white content) semicolon

-- what follows the `;`
abbrev pub comment_text : List ℕ → List ℕ
comment_text content = trimmed (drop 1 (after_white content))

-- the comment lines that some lines begin with
abbrev pub comments_in : List (List ℕ) → List (List ℕ)
comments_in [] = []
comments_in (c ∷ cs) = if is_comment c then comment_text c ∷ comments_in cs else []

-- a comment on a line and its further lines, joined by LF
abbrev pub comment_of : List ℕ → List (List ℕ) → List ℕ
comment_of own more = own ++ flat_map (λ text. line_feed ∷ text) more

-- the tags of some comment lines
abbrev pub tags_in : List (List ℕ) → List Tag
tags_in texts = flat_map tags_of texts

abbrev pub is_date_tag : Tag → Bool
is_date_tag tag = bytes_eq tag.name (codes "date")

-- the day that a tag's value writes, with that year where it writes none
abbrev pub day_written : ℕ → Result ℕ ℕ → Result (Option Day) Fault
day_written line (Ok day) = Ok (Some (record { 0 = day }))
day_written line (Err at) = Err (fault_at line Date)

-- the value of the first tag `date` of a comment's line
abbrev pub date_value : List ℕ → Option (List ℕ)
date_value text = option_map (λ tag. tag.value) (find is_date_tag (tags_of text))

-- the day of a value where it is there, else a later one
abbrev pub day_or : Option (List ℕ) → ℕ → ℕ → Result (Option Day) Fault → Result (Option Day) Fault
day_or None year line later = later
day_or (Some value) year line later = day_written line (date_of value (Some year))

-- the day that the first tag `date` of some comment lines says, of which the first is the line-th; none without such a tag
abbrev pub day_in : ℕ → ℕ → List (List ℕ) → Result (Option Day) Fault
day_in year line [] = Ok None
day_in year line (text ∷ texts) = day_or (date_value text) year line (day_in year (line + 1) texts)
