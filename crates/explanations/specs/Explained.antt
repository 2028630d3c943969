-- What is wrong in a line of a journal and how it is mended, by the cause of the fault and by what the line says.
use Rattle.std.specs.Prelude.{ℕ, ◌-◌, ◌==◌, nat_le, nat_eq, Bool, false, ◌&&◌, ◌||◌, List, [], ◌∷◌, ◌++◌, codes, if◌then◌else◌}
use Rattle.std.specs.Fmt.{decimal}
use Rattle.std.specs.List.{starts_with}
use Rattle.hl_base.specs.Ascii.{semicolon, tilde}
use Rattle.hl_base.specs.Items.{begins_entry, is_white}
use Rattle.book.specs.FaultLine.{ended, fault_line}
use Rattle.book.specs.declared.fault.Cause.{Cause}
use Rattle.book.specs.declared.fault.Cause.TheVariants as cause
use Rattle.book.specs.declared.fault.Fault.{Fault}
use Rattle.directive_reader.specs.Keywords.{has_word}
use Rattle.entry_reader.specs.Lines.{before_byte, begins, contents_of, first_is}

-- the line of a number among some, counted from 1; nothing where there is none
abbrev pub numbered : ℕ → List (List ℕ) → List ℕ
numbered n [] = []
numbered n (l ∷ ls) = if nat_le n 1 then l else numbered (n - 1) ls

-- the first of some lines; nothing where there is none
abbrev pub first_of : List (List ℕ) → List ℕ
first_of [] = []
first_of (l ∷ ls) = l

-- what the first line of a text says
abbrev pub first_content : List ℕ → List ℕ
first_content text = first_of (contents_of text)

-- ---- what is in the line

-- a no-break space, U+00A0
abbrev pub is_no_break : ℕ → List ℕ → Bool
is_no_break b bs = (b == 194) && begins bs 160

abbrev pub has_no_break : List ℕ → Bool
has_no_break [] = false
has_no_break (b ∷ bs) = is_no_break b bs || has_no_break bs

-- ---- the table

-- a sentence that names the no-break space before a comment, where there is one, or else the other sentence
abbrev pub by_no_break : List ℕ → List ℕ → List ℕ → List ℕ
by_no_break line named other = if has_no_break (before_byte semicolon line) then named else other

-- the first line of an entry, an indented line, or a directive
abbrev pub form_sentence : List ℕ → List ℕ
form_sentence line =
    if begins_entry line then codes "White space is missing between the date of the entry and what follows it."
    else if first_is is_white line then codes "An indented line belongs to the entry directly above it, without an empty line between; a note after an amount begins with ;, a posting in parentheses and a cost need an amount, and a rule has no assertion."
    else codes "Something that the directive takes is missing or does not read, or the line has more than it takes: begin a note with ;."

-- a byte order mark is EF BB BF
abbrev pub directive_sentence : List ℕ → List ℕ
directive_sentence line =
    if starts_with nat_eq line (239 ∷ 187 ∷ 191 ∷ []) then codes "The line begins with a byte order mark (U+FEFF): remove it, at the start of a file for example with tail -c +4."
    else if has_word (codes "include") line then codes "No other file is included: put all files into one, for example with cat."
    else if has_word (codes "account") line then codes "The type of an account is one of A, L, E, R, X, C and V, or its English word."
    else if has_word (codes "end") line then codes "No apply account above this line is still open, or its end is not written end apply account."
    else codes "This is no directive: indent a posting, and begin a note with ;."

-- the first line of an entry, or a periodic rule
abbrev pub date_sentence : List ℕ → List ℕ
date_sentence line =
    if begins line tilde then codes "The period of the rule does not read: write it as in ~ monthly, with two spaces before a description."
    else codes "The date does not read, or the calendar does not have it: write it as 2024-02-28, with its year where none is known."

abbrev pub sentence_of : Cause → List ℕ → List ℕ
sentence_of cause.Form line = form_sentence line
sentence_of cause.Date line = date_sentence line
sentence_of cause.Number line = by_no_break line (codes "The number does not read: it has digits, at most one sign and one decimal mark, at most 18 decimals, group marks only between digits, and less than 2^127 units of its last decimal. The line has a no-break space (U+00A0), which is neither a group mark nor white space.") (codes "The number does not read: it has digits, at most one sign and one decimal mark, at most 18 decimals, group marks only between digits, and less than 2^127 units of its last decimal.")
sentence_of cause.Account line = codes "The account has no name, an empty part as in a::b, or more than 64 parts: write each part, with one colon between two."
sentence_of cause.StatusMark line = codes "There is a second ! or * after the first: leave one of them out."
sentence_of cause.Directive line = directive_sentence line
sentence_of cause.Quote line = by_no_break line (codes "A symbol with digits, spaces or punctuation is written in double quotes, and a number has no spaces between its digits. The line has a no-break space (U+00A0), which is neither a group mark nor white space.") (codes "A symbol with digits, spaces or punctuation is written in double quotes, and a number has no spaces between its digits.")
sentence_of cause.TooLong line = codes "An entry or a directive has at most 65536 bytes: divide it."
sentence_of cause.Encoding line = codes "The line is not UTF-8: convert the file, for example with iconv -f latin1 -t utf-8."
sentence_of cause.TwoMissing line = codes "Two postings of this entry have no amount: write two spaces or a tab before each amount, since after one space it belongs to the account, and leave out at most one amount."
sentence_of cause.NotAllowed line = codes "A posting of this entry has a tag date, so no amount can be assigned by =: write the amounts, or leave out the tag."
sentence_of (cause.Unbalanced symbol sum) line = codes "The amounts of this entry sum to the amount above and not to zero: correct one of them, or leave one out."
sentence_of (cause.AssertionFailed wanted found) line = codes "After this posting the account has the second amount where the assertion wants the first: an entry up to here is missing, is there twice or has a wrong amount, or the assertion is wrong. With == the account has no other symbol, and with =* its subaccounts count."
sentence_of cause.Range line = codes "Amounts or costs are too large: without their signs their sum in one symbol, or a quantity times its price, is 2^127 or more, in units of the last decimal."

-- ---- the lines that are written

-- a line with its number
abbrev pub excerpt : ℕ → List ℕ → List ℕ
excerpt number line = ended (decimal number ++ codes " | " ++ line)

abbrev pub below : ℕ → List ℕ → List ℕ → List ℕ
below number line sentence = excerpt number line ++ ended sentence

-- the error line of a fault in a line, the line with its number, and a sentence on it
abbrev pub explained_in : List ℕ → Fault → List ℕ
explained_in line fault = fault_line fault ++ below fault.line line (sentence_of fault.cause line)

-- the same of the text in which the fault is
unfoldable pub explained : List ℕ → Fault → List ℕ
explained text fault = explained_in (numbered fault.line (contents_of text)) fault
