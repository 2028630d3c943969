-- The head line of an entry: `DATE [MARK] [(CODE)] [DESCRIPTION] [; COMMENT]`.
use Rattle.std.specs.Prelude.{ℕ, Bool, true, ◌&&◌, ◌||◌, List, [], ◌∷◌, ◌==◌, if◌then◌else◌, drop, Option, Result, Ok, Err}
use Rattle.std.specs.List.{prefix_len, take_while}
use Rattle.hl_base.specs.Ascii.{asterisk, close_round, exclamation, open_round, semicolon}
use Rattle.hl_base.specs.Items.{is_white}
use Rattle.hl_num.specs.Reading.{is_digit}
use Rattle.hl_time.specs.Date.{date_of, is_separator}
use Rattle.book.specs.declared.fault.Fault.{Fault}
use Rattle.book.specs.declared.fault.Cause.TheVariants as cause
use Rattle.book.specs.declared.transaction.Mark.{Mark}
use Rattle.book.specs.declared.transaction.Mark.TheVariants.{Unmarked, Pending, Cleared}
use Rattle.entry_reader.specs.Causes.{fault_at, ◌>>=◌}
use Rattle.entry_reader.specs.Contexts.{Context}
use Rattle.entry_reader.specs.Lines.{first_is, begins, before_byte, after_byte, has_byte, after_white, trimmed}

-- digits and separators make up a date
abbrev pub is_date_byte : ℕ → Bool
is_date_byte b = is_digit b || is_separator b

-- the text has ended, or goes on with white space
abbrev pub ends_word : List ℕ → Bool
ends_word [] = true
ends_word (b ∷ bs) = is_white b

-- a day, with white space or nothing after it
abbrev pub day_before : ℕ → List ℕ → Result ℕ ℕ → Result (ℕ × List ℕ) Fault
day_before line rest (Err at) = Err (fault_at line cause.Date)
day_before line rest (Ok day) = if ends_word rest then Ok (day, after_white rest) else Err (fault_at line cause.Form)

-- the day that a text begins with, and what follows it and white space
unfoldable pub day_at : Option ℕ → ℕ → List ℕ → Result (ℕ × List ℕ) Fault
day_at year line text = day_before line (drop (prefix_len is_date_byte text) text) (date_of (take_while is_date_byte text) year)

-- `!` or `*`
abbrev pub is_mark : ℕ → Bool
is_mark b = (b == exclamation) || (b == asterisk)

abbrev pub mark_of : List ℕ → Mark
mark_of text = if begins text exclamation then Pending else if begins text asterisk then Cleared else Unmarked

-- what follows a mark and the white space after it, where a mark stands first
abbrev pub after_mark : List ℕ → List ℕ
after_mark text = if first_is is_mark text then after_white (drop 1 text) else text

-- a second mark, after the first and white space
abbrev pub has_second_mark : List ℕ → Bool
has_second_mark text = first_is is_mark text && first_is is_white (drop 1 text) && first_is is_mark (after_mark text)

-- the mark that a text begins with, if any, and what follows it and white space
unfoldable pub mark_at : ℕ → List ℕ → Result (Mark × List ℕ) Fault
mark_at line text =
    if has_second_mark text then Err (fault_at line cause.StatusMark) else Ok (mark_of text, after_mark text)

-- a code in parentheses stands first, and they are closed on the line
abbrev pub has_code : List ℕ → Bool
has_code text = begins text open_round && has_byte close_round (drop 1 text)

abbrev pub code_of : List ℕ → List ℕ
code_of text = if has_code text then before_byte close_round (drop 1 text) else []

abbrev pub after_code : List ℕ → List ℕ
after_code text = if has_code text then after_byte close_round (drop 1 text) else text

-- all up to the first `;`
abbrev pub description_of : List ℕ → List ℕ
description_of text = trimmed (before_byte semicolon text)

-- what follows the first `;`; empty where there is none
abbrev pub own_comment : List ℕ → List ℕ
own_comment text = trimmed (after_byte semicolon text)

-- what a head line says; the comment is the one on the line
pub record Head : Type 0 where
  pub day : ℕ
  pub mark : Mark
  pub code : List ℕ
  pub description : List ℕ
  pub comment : List ℕ

abbrev pub head_with : ℕ → Mark → List ℕ → List ℕ → List ℕ → Head
head_with day mark code description comment = record { day = day; mark = mark; code = code; description = description; comment = comment }

-- the head of its day and mark, and of the text behind them
abbrev pub head_from : ℕ → Mark → List ℕ → Head
head_from day mark text = head_with day mark (code_of text) (description_of (after_code text)) (own_comment (after_code text))

unfoldable pub head_of : Context → ℕ → List ℕ → Result Head Fault
head_of context line content = do
  day ← day_at context.year line content
  mark ← mark_at line day.1
  Ok (head_from day.0 mark.0 mark.1)
