-- The line that says what is wrong with a text.
use Rattle.std.specs.Prelude.{ℕ, List, [], ◌∷◌, ◌++◌, codes}
use Rattle.std.specs.Fmt.{decimal}
use Rattle.hl_base.specs.Ascii.{line_feed}
use Rattle.book.specs.declared.amount.Amount.{Amount}
use Rattle.book.specs.declared.fault.Fault.{Fault}
use Rattle.book.specs.declared.fault.Cause.{Cause}
use Rattle.book.specs.declared.fault.Cause.TheVariants as cause
use Rattle.book.specs.Printed.{plain_amount}

-- a line with its end
abbrev pub ended : List ℕ → List ℕ
ended line = line ++ (line_feed ∷ [])

-- what an assertion wants, and what is found
abbrev pub assertion_text : Amount → Amount → List ℕ
assertion_text wanted found =
    codes "assertion: wanted " ++ plain_amount wanted.symbol wanted.value ++ codes ", found " ++ plain_amount found.symbol found.value

abbrev pub cause_text : Cause → List ℕ
cause_text cause.Form = codes "form"
cause_text cause.Date = codes "date"
cause_text cause.Number = codes "number"
cause_text cause.Account = codes "account"
cause_text cause.StatusMark = codes "status mark"
cause_text cause.Directive = codes "directive"
cause_text cause.Quote = codes "quote"
cause_text cause.TooLong = codes "too long"
cause_text cause.Encoding = codes "encoding"
cause_text cause.TwoMissing = codes "two missing amounts"
cause_text cause.NotAllowed = codes "not allowed"
cause_text (cause.Unbalanced symbol sum) = codes "unbalanced " ++ plain_amount symbol sum
cause_text (cause.AssertionFailed wanted found) = assertion_text wanted found
cause_text cause.Range = codes "range"

-- a fault of a text, with its line
abbrev pub fault_line : Fault → List ℕ
fault_line fault = ended (codes "error: line " ++ decimal fault.line ++ codes ": " ++ cause_text fault.cause)
