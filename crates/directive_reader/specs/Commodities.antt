-- `commodity AMOUNT`; `commodity SYMBOL`, with an indented line `format AMOUNT` or nothing; and `D AMOUNT`.
use Rattle.std.specs.Prelude.{ℕ, ◌+◌, Bool, ◌&&◌, ◌||◌, not, List, [], ◌∷◌, nat_lt, if◌then◌else◌, length, drop, codes, Option, Some, None, Result, Ok, Err}
use Rattle.std.specs.Str.{bytes_eq}
use Rattle.hl_base.specs.Ascii.{quote}
use Rattle.hl_base.specs.Items.{is_white}
use Rattle.book.specs.declared.amount.Amount.{Amount}
use Rattle.book.specs.declared.directive.Directive.{Directive}
use Rattle.book.specs.declared.directive.Directive.TheVariants as directive
use Rattle.book.specs.declared.fault.Fault.{Fault}
use Rattle.book.specs.declared.fault.Cause.TheVariants as cause
use Rattle.entry_reader.specs.Amounts.{amount_at}
use Rattle.entry_reader.specs.Causes.{fault_at, ◌>>=◌}
use Rattle.entry_reader.specs.Comments.{is_comment}
use Rattle.entry_reader.specs.Contexts.{Context}
use Rattle.entry_reader.specs.Lines.{first_is, begins, has_byte, after_white}
use Rattle.entry_reader.specs.Postings.{ends_line}
use Rattle.entry_reader.specs.Symbols.{symbol_name, after_symbol}
use Rattle.directive_reader.specs.Endings.{closing, comments_only}
use Rattle.directive_reader.specs.Keywords.{has_word, after_word}

-- a symbol stands there, in quotes or without
abbrev pub is_symbol : List ℕ → Bool
is_symbol text = nat_lt 0 (length (symbol_name text)) && (not (begins text quote) || has_byte quote (drop 1 text))

-- and nothing but a comment follows it on its line
abbrev pub is_symbol_alone : List ℕ → Bool
is_symbol_alone text = is_symbol text && ends_line (after_white (after_symbol text))

-- an indented line that begins with `format`
abbrev pub is_format : List ℕ → Bool
is_format content = first_is is_white content && has_word (codes "format") (after_white content)

abbrev pub after_format : List ℕ → List ℕ
after_format content = after_word (codes "format") (after_white content)

-- it is of the symbol that is declared, and nothing but a comment follows it
abbrev pub formatted : List ℕ → ℕ → Amount × List ℕ → Result Amount Fault
formatted symbol line read =
    if bytes_eq (read.0).symbol symbol && ends_line read.1 then Ok read.0 else Err (fault_at line cause.Form)

-- an indented line `format AMOUNT`
unfoldable pub format_at : Context → List ℕ → ℕ → List ℕ → Result Amount Fault
format_at context symbol line content =
    if not (is_format content) then Err (fault_at line cause.Form)
    else (do
      a ← amount_at context line (after_format content)
      formatted symbol line a)

-- the amount of the one line among comment lines that isn't a comment
unfoldable pub format_in : Context → List ℕ → ℕ → List (List ℕ) → Result (Option Amount) Fault
format_in context symbol line [] = Ok None
format_in context symbol line (c ∷ cs) =
    if is_comment c then format_in context symbol (line + 1) cs
    else (do
      a ← format_at context symbol line c
      comments_only (line + 1) cs >>= λ done. Ok (Some a))

-- `commodity SYMBOL`
unfoldable pub symbol_directive : Context → ℕ → List ℕ → List (List ℕ) → Result Directive Fault
symbol_directive context line text after = do
  amount ← format_in context (symbol_name text) (line + 1) after
  Ok (directive.Commodity (symbol_name text) amount)

-- `commodity AMOUNT`
unfoldable pub amount_directive : Context → ℕ → List ℕ → List (List ℕ) → Result Directive Fault
amount_directive context line text after = do
  a ← amount_at context line text
  done ← closing line a.1 after
  Ok (directive.Commodity (a.0).symbol (Some a.0))

abbrev pub commodity_of : Context → ℕ → List ℕ → List (List ℕ) → Result Directive Fault
commodity_of context line text after =
    if is_symbol_alone text then symbol_directive context line text after else amount_directive context line text after

-- `D AMOUNT`
unfoldable pub default_of : Context → ℕ → List ℕ → List (List ℕ) → Result Directive Fault
default_of context line text after = do
  a ← amount_at context line text
  done ← closing line a.1 after
  Ok (directive.Default a.0)
