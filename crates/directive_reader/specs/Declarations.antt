-- Directives of names, of the year and of the decimal mark.
use Rattle.std.specs.Prelude.{ℕ, ◌+◌, ◌-◌, ◌*◌, ◌&&◌, List, ◌∷◌, nat_lt, if◌then◌else◌, length, take, drop, Option, Some, None, Result, Ok, Err}
use Rattle.hl_base.specs.Ascii.{comma, digit_zero, dot, equals}
use Rattle.hl_num.specs.Reading.{is_digit}
use Rattle.book.specs.declared.directive.Directive.{Directive}
use Rattle.book.specs.declared.directive.Directive.TheVariants as directive
use Rattle.book.specs.declared.fault.Fault.{Fault}
use Rattle.book.specs.declared.fault.Cause.TheVariants as cause
use Rattle.entry_reader.specs.Accounts.{account_len, has_parts, name_in}
use Rattle.entry_reader.specs.Causes.{fault_at, ◌>>=◌}
use Rattle.entry_reader.specs.Comments.{comments_in}
use Rattle.entry_reader.specs.Contexts.{Context}
use Rattle.entry_reader.specs.Lines.{begins, before_byte, after_byte, has_byte, after_white, trimmed}
use Rattle.directive_reader.specs.AccountTypes.{letter_in}
use Rattle.directive_reader.specs.Endings.{comments_only, closing, ending_at, before_comment}

-- the name of an account that a text begins with, and what follows it and white space
abbrev pub name_at : List ℕ → List ℕ
name_at text = take (account_len text) text

abbrev pub after_name : List ℕ → List ℕ
after_name text = after_white (drop (account_len text) text)

-- `account NAME`, as the context changes the name, with the type that its comments say
unfoldable pub account_of : Context → ℕ → List ℕ → List (List ℕ) → Result Directive Fault
account_of context line text after = do
  name ← name_in context line (name_at text)
  own ← ending_at line (after_name text)
  letter ← letter_in line (own ∷ comments_in after)
  done ← comments_only (line + 1) after
  Ok (directive.Account name letter)

-- `apply account NAME`
unfoldable pub apply_of : ℕ → List ℕ → List (List ℕ) → Result Directive Fault
apply_of line text after =
    if has_parts (name_at text) then (closing line (after_name text) after >>= λ done. Ok (directive.Apply (name_at text)))
    else Err (fault_at line cause.Account)

-- `end apply account`, where one is open
unfoldable pub end_apply_of : Context → ℕ → List ℕ → List (List ℕ) → Result Directive Fault
end_apply_of context line text after =
    if nat_lt 0 (length context.applied) then (closing line text after >>= λ done. Ok directive.EndApply)
    else Err (fault_at line cause.Directive)

-- `end aliases`
unfoldable pub end_aliases_of : ℕ → List ℕ → List (List ℕ) → Result Directive Fault
end_aliases_of line text after = closing line text after >>= λ done. Ok directive.EndAliases

-- what stands before the first `=`, and what after it, up to a comment
abbrev pub old_name : List ℕ → List ℕ
old_name text = trimmed (before_byte equals (before_comment text))

abbrev pub new_name : List ℕ → List ℕ
new_name text = trimmed (after_byte equals (before_comment text))

-- `alias OLD=NEW`; both are plain text
unfoldable pub alias_of : ℕ → List ℕ → List (List ℕ) → Result Directive Fault
alias_of line text after =
    if has_byte equals (before_comment text) && nat_lt 0 (length (old_name text))
    then (comments_only (line + 1) after >>= λ done. Ok (directive.Alias (old_name text) (new_name text)))
    else Err (fault_at line cause.Form)

-- a name that is any text up to a comment, and isn't empty
unfoldable pub label_at : ℕ → List ℕ → Result (List ℕ) Fault
label_at line text =
    if nat_lt 0 (length (trimmed (before_comment text))) then Ok (trimmed (before_comment text)) else Err (fault_at line cause.Form)

-- `payee NAME`
unfoldable pub payee_of : ℕ → List ℕ → List (List ℕ) → Result Directive Fault
payee_of line text after = do
  name ← label_at line text
  done ← comments_only (line + 1) after
  Ok (directive.Payee name)

-- `tag NAME`
unfoldable pub tag_of : ℕ → List ℕ → List (List ℕ) → Result Directive Fault
tag_of line text after = do
  name ← label_at line text
  done ← comments_only (line + 1) after
  Ok (directive.TagName name)

-- what a digit counts
abbrev pub digit_of : ℕ → Option ℕ
digit_of b = if is_digit b then Some (b - digit_zero) else None

-- the number of four digits
abbrev pub number_of : Option ℕ → Option ℕ → Option ℕ → Option ℕ → Option ℕ
number_of (Some a) (Some b) (Some c) (Some d) = Some (1000 * a + 100 * b + 10 * c + d)
number_of _ _ _ _ = None

-- the number that four digits at the front of a text write
abbrev pub four_digits : List ℕ → Option ℕ
four_digits (a ∷ b ∷ c ∷ d ∷ rest) = number_of (digit_of a) (digit_of b) (digit_of c) (digit_of d)
four_digits _ = None

-- what follows four bytes and white space
abbrev pub after_digits : List ℕ → List ℕ
after_digits text = after_white (drop 4 text)

-- a year, with nothing but comments after it
abbrev pub year_with : ℕ → Option ℕ → List ℕ → List (List ℕ) → Result Directive Fault
year_with line None rest after = Err (fault_at line cause.Form)
year_with line (Some year) rest after = closing line rest after >>= λ done. Ok (directive.Year year)

-- `Y YEAR`, `YYEAR` and `year YEAR`
unfoldable pub year_of : ℕ → List ℕ → List (List ℕ) → Result Directive Fault
year_of line text after = year_with line (four_digits text) (after_digits text) after

-- the mark that a text begins with, `.` or `,`
abbrev pub mark_at : List ℕ → Option ℕ
mark_at text = if begins text dot then Some dot else if begins text comma then Some comma else None

abbrev pub decimal_mark_with : ℕ → Option ℕ → List ℕ → List (List ℕ) → Result Directive Fault
decimal_mark_with line None rest after = Err (fault_at line cause.Form)
decimal_mark_with line (Some mark) rest after = closing line rest after >>= λ done. Ok (directive.DecimalMark mark)

-- `decimal-mark .` and `decimal-mark ,`
unfoldable pub decimal_mark_of : ℕ → List ℕ → List (List ℕ) → Result Directive Fault
decimal_mark_of line text after = decimal_mark_with line (mark_at text) (after_white (drop 1 text)) after
