-- What is wrong in a record or in a line of rules and how it is mended, by the cause and by what is there.
use Rattle.std.specs.Prelude.{ℕ, ◌==◌, Bool, true, false, ◌&&◌, ◌||◌, not, List, [], ◌∷◌, length, codes, Option, Some, None, is_some, if◌then◌else◌}
use Rattle.std.specs.List.{list_any}
use Rattle.std.specs.Str.{bytes_eq, is_utf8}
use Rattle.hl_base.specs.Ascii.{dot, exclamation, minus, percent, slash}
use Rattle.hl_base.specs.Items.{is_white}
use Rattle.entry_reader.specs.Accounts.{is_account_text}
use Rattle.entry_reader.specs.Lines.{begins, first_is}
use Rattle.csv_rules.specs.Forms.{pattern_text}
use Rattle.csv_rules.specs.declared.faults.RulesFault.{RulesFault}
use Rattle.csv_rules.specs.declared.faults.RulesFault.TheVariants as rules_fault
use Rattle.csv_rules.specs.declared.kinds.DatePart.{DatePart}
use Rattle.csv_rules.specs.declared.kinds.DatePart.TheVariants as parts
use Rattle.csv_rules.specs.declared.kinds.EntryField.{EntryField}
use Rattle.csv_rules.specs.declared.kinds.EntryField.TheVariants as fields
use Rattle.csv_entries.specs.Dates.{no_parts, parts_of}
use Rattle.csv_entries.specs.declared.faults.ConvertFault.{ConvertFault}
use Rattle.csv_entries.specs.declared.faults.ConvertFault.TheVariants as faults
use Rattle.bank_explanations.specs.Places.{begins_mark, begins_with}
use Rattle.bank_explanations.specs.declared.parts.Part.{Part}

-- ---- records

-- an account that isn't valid
abbrev pub account_sentence : List ℕ → List ℕ
account_sentence text =
    if is_account_text text
    then codes "The account has no name, an empty part as in a::b, or more than 64 parts: write each part, with one colon between two."
    else codes "The account has a tab, a line end, white space at an end, or two white space characters in a row: assign a name with single spaces between its words."

-- a field that isn't valid, and what it is given
abbrev pub field_sentence : EntryField → List ℕ → List ℕ
field_sentence fields.Status text = codes "The status is none of *, ! and nothing: assign one of these, in blocks if the bank has other words."
field_sentence fields.Amount text = codes "The amount does not read: decimal-mark says how its decimals begin, and there are no spaces between its digits."
field_sentence fields.AmountIn text = codes "The amount does not read: decimal-mark says how its decimals begin, and there are no spaces between its digits."
field_sentence fields.AmountOut text = codes "The amount does not read: decimal-mark says how its decimals begin, and there are no spaces between its digits."
field_sentence fields.Amount2 text = codes "The amount does not read: decimal-mark says how its decimals begin, and there are no spaces between its digits."
field_sentence fields.Currency text = codes "The currency is no symbol, or an amount has a symbol already: leave out one of them, or write the currency in double quotes."
field_sentence fields.Account1 text = account_sentence text
field_sentence fields.Account2 text = account_sentence text
field_sentence _ text = codes "An amount, the status, the currency or an account does not read."

abbrev pub bad_sentence : Option Part → List ℕ
bad_sentence (Some p) = field_sentence p.field p.text
bad_sentence None = codes "An amount, the status, the currency or an account does not read."

-- ---- dates

abbrev pub is_year : DatePart → Bool
is_year parts.Year = true
is_year parts.ShortYear = true
is_year _ = false

abbrev pub is_month : DatePart → Bool
is_month parts.Month = true
is_month parts.MonthName = true
is_month _ = false

abbrev pub is_day : DatePart → Bool
is_day parts.Day = true
is_day _ = false

-- a year, a month or a day isn't among the parts of a date
abbrev pub lacks_part : Option (List DatePart) → Bool
lacks_part (Some format) = not (list_any is_year format && list_any is_month format && list_any is_day format)
lacks_part None = false

-- the whole of a text is of these parts
abbrev pub is_written : List DatePart → List ℕ → Bool
is_written format text = is_some (parts_of format no_parts text)

-- a year, a month and a day with a byte between them
abbrev pub divided_by : ℕ → List DatePart
divided_by mark = parts.Year ∷ parts.Byte mark ∷ parts.Month ∷ parts.Byte mark ∷ parts.Day ∷ []

-- it is written as `date-format` says, and without that rule as in a journal, with its year
abbrev pub is_date : Option (List DatePart) → List ℕ → Bool
is_date (Some format) text = is_written format text
is_date None text =
    is_written (divided_by minus) text || is_written (divided_by dot) text || is_written (divided_by slash) text

-- a date that isn't written so
abbrev pub unwritten_sentence : Option (List DatePart) → List ℕ
unwritten_sentence (Some format) = codes "The date is not written as date-format says: correct the rule, or leave the record out by skip."
unwritten_sentence None = codes "The date is not written as 2024-02-28: say by date-format how the bank writes it, or leave the record out by skip."

-- a date that is written so, and that the calendar doesn't have
abbrev pub unknown_sentence : Option (List DatePart) → List ℕ
unknown_sentence (Some format) = codes "The calendar does not have this day: correct the order of %m and %d in date-format, or assign another date in a block."
unknown_sentence None = codes "The calendar does not have this day: say by date-format how the bank writes it, or assign another date in a block."

-- a date that doesn't read
abbrev pub date_sentence : Option (List DatePart) → List ℕ → List ℕ
date_sentence format text =
    if lacks_part format then codes "The rule date-format lacks a year, a month or a day: write %Y or %y, %m or %b, and %d, and assign date with all three, as in date 2024-%1."
    else if length text == 0 then codes "The date is empty: assign a column to date, or leave the record out by skip."
    else if is_date format text then unknown_sentence format
    else unwritten_sentence format

abbrev pub no_date_sentence : Option (List DatePart) → Option Part → List ℕ
no_date_sentence format (Some p) = date_sentence format p.text
no_date_sentence format None = codes "The date does not read."

-- a record that is refused for this cause, by rules that say how dates are written
abbrev pub sentence_of : Option (List DatePart) → ConvertFault → Option Part → List ℕ
sentence_of format (faults.BadRecord n) p = bad_sentence p
sentence_of format (faults.NoDate n) p = no_date_sentence format p
sentence_of format (faults.NoAmount n) p = codes "The fields amount, amount-in and amount-out are all empty: assign a column to one of them, or leave the record out by skip."
sentence_of format (faults.TwoAmounts n) p = codes "Assign amount alone, or amount-in and amount-out, of which one is empty or zero in each record."
sentence_of format (faults.CsvRefused n) p = codes "A column is not UTF-8: convert the file, for example with iconv -f latin1 -t utf-8."
sentence_of format faults.Memory p = codes "There is not enough memory."

-- ---- rules

-- a setting of the file, or `if`
abbrev pub setting_sentence : List ℕ → List ℕ
setting_sentence line =
    if begins_with line (codes "skip") then codes "After skip there is nothing, or white space and the number of lines that are no records."
    else if begins_with line (codes "separator") then codes "After separator there are white space and one ASCII character, SPACE or TAB."
    else if begins_with line (codes "date-format") then codes "After date-format there are white space and the form of a date, in which each % begins one of %Y, %y, %m, %-m, %b, %d, %-d and %%."
    else if begins_with line (codes "decimal-mark") then codes "After decimal-mark there are white space and . or a comma."
    else if begins_with line (codes "fields") then codes "After fields there are white space and the names of the columns, with commas between them."
    else if bytes_eq line (codes "end") then codes "The word end is indented, below the patterns of a block."
    else codes "This is no rule: a rule begins with the name of a field, before a colon or white space, or with another word of rules."

-- it has a mark of patterns at its front
abbrev pub begins_pattern : List ℕ → Bool
begins_pattern line = begins line 38 || begins line exclamation || begins line percent

-- outside a block no pattern is read
abbrev pub pattern_sentence : List ℕ → List ℕ
pattern_sentence line =
    if length (pattern_text line) == 0 then codes "A pattern is missing after &, ! and the name of a column."
    else codes "A pattern stands below if, above the indented lines of its block: move this line there, or begin it with if."

abbrev pub word_sentence : List ℕ → List ℕ
word_sentence line =
    if begins_with line (codes "newest-first") || begins_with line (codes "intra-day-reversed") then codes "Nothing follows newest-first and intra-day-reversed."
    else if begins_with line (codes "if") then codes "After if there is nothing, or white space and a pattern."
    else if begins_pattern line then pattern_sentence line
    else if begins_with line (codes "include") then codes "No other file is included: put all rules into one file."
    else setting_sentence line

-- a line that isn't of its form; behind the last line nothing is written
abbrev pub line_sentence : List ℕ → List ℕ
line_sentence line =
    if length line == 0 then codes "The block at the end has no assignment: below its patterns, indent a field with its value, skip or end."
    else if begins_mark line then codes "The line begins with a byte order mark (U+FEFF): remove it, at the start of a file for example with tail -c +4."
    else if not (is_utf8 line) then codes "The line is not UTF-8: convert the file, for example with iconv -f latin1 -t utf-8."
    else if first_is is_white line then codes "An indented line is a field with its value, skip or end, and is below the patterns of a block."
    else word_sentence line

abbrev pub rules_sentence : RulesFault → List ℕ → List ℕ
rules_sentence (rules_fault.BadRule n) line = line_sentence line
rules_sentence (rules_fault.PatternRefused n) line = codes "The pattern is no regular expression, or too large a one: write a backslash before each of \\ . + * ? ( ) | [ ] { } ^ $ that is meant as it is."
rules_sentence rules_fault.Memory line = codes "There is not enough memory."
