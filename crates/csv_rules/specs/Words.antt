-- The words that lines of rules begin with, and the names of fields.
use Rattle.std.specs.Prelude.{ℕ, ◌+◌, ◌-◌, ◌^◌, min, Bool, false, ◌&&◌, ◌||◌, not, ◌==◌, nat_le, List, [], ◌∷◌, take, drop, chars, codes, Option, Some, None, if◌then◌else◌}
use Rattle.std.specs.Char.{len_utf8}
use Rattle.std.specs.Char.Unicode.Alphabetic.{is_alphabetic}
use Rattle.std.specs.Char.Unicode.Numeric.{is_numeric}
use Rattle.std.specs.List.{prefix_len, list_all}
use Rattle.std.specs.Str.{bytes_eq}
use Rattle.std.specs.Str.Parse.{digits_value}
use Rattle.hl_base.specs.Ascii.{minus, underscore}
use Rattle.hl_time.specs.Words.{is_word}
use Rattle.query_terms.specs.Patterns.{folded}
use Rattle.csv_rules.specs.declared.kinds.EntryField.{EntryField}
use Rattle.csv_rules.specs.declared.kinds.EntryField.TheVariants as fields
use Rattle.csv_rules.specs.declared.forms.Word.{Word}
use Rattle.csv_rules.specs.declared.forms.Word.TheVariants as words
use Rattle.hl_num.specs.Reading.{most}
pub use Rattle.hl_num.specs.Reading.{is_digit}

-- an ASCII letter
abbrev pub is_letter : ℕ → Bool
is_letter b = (nat_le 65 b && nat_le b 90) || (nat_le 97 b && nat_le b 122)

-- a byte of the word that a rule begins with: an ASCII letter or digit, `_` or `-`
abbrev pub is_name_byte : ℕ → Bool
is_name_byte b = is_digit b || is_letter b || (b == underscore) || (b == minus)

-- the word that a rule begins with, which may be empty
abbrev pub name_at : List ℕ → List ℕ
name_at text = take (prefix_len is_name_byte text) text

-- what follows it
abbrev pub after_name : List ℕ → List ℕ
after_name text = drop (prefix_len is_name_byte text) text

-- a character of a column's name, where a rule refers to it: a letter or a digit of any script, `_` or `-`
unfoldable pub is_name_char : ℕ → Bool
is_name_char c = is_alphabetic c || is_numeric c || (c == underscore) || (c == minus)

-- the bytes that the longest run of such characters takes with which some characters begin
abbrev pub run_len : List ℕ → ℕ
run_len [] = 0
run_len (c ∷ cs) = if is_name_char c then len_utf8 c + run_len cs else 0

-- the bytes of the column's name that a text begins with
unfoldable pub column_len : List ℕ → ℕ
column_len text = run_len (chars text)

-- the column's name that a text begins with, which may be empty
abbrev pub column_name : List ℕ → List ℕ
column_name text = take (column_len text) text

-- what follows it
abbrev pub after_column_name : List ℕ → List ℕ
after_column_name text = drop (column_len text) text

-- the names are the same by simple folding, as patterns are found
abbrev pub is_same_name : List ℕ → List ℕ → Bool
is_same_name name other = bytes_eq (folded other) (folded name)

-- one digit or more, and nothing else
abbrev pub are_digits : List ℕ → Bool
are_digits text = not (bytes_eq text []) && list_all is_digit text

-- the number of some digits, or the greatest that is told
abbrev pub value_of : List ℕ → ℕ
value_of digits = min (digits_value 10 digits) most

-- the names are the same, with case ignored or not
abbrev pub is_named : Bool → List ℕ → List ℕ → Bool
is_named ignores_case name word = if ignores_case then is_word name word else bytes_eq name word

-- the field of amounts or of the currency that a name is
unfoldable pub amount_named : Bool → List ℕ → Option EntryField
amount_named ignores_case name =
    if is_named ignores_case name (codes "amount") then Some fields.Amount
    else if is_named ignores_case name (codes "amount1") then Some fields.Amount
    else if is_named ignores_case name (codes "amount-in") then Some fields.AmountIn
    else if is_named ignores_case name (codes "amount-out") then Some fields.AmountOut
    else if is_named ignores_case name (codes "amount2") then Some fields.Amount2
    else if is_named ignores_case name (codes "currency") then Some fields.Currency
    else None

-- the field of an account, of amounts or of the currency that a name is
unfoldable pub account_named : Bool → List ℕ → Option EntryField
account_named ignores_case name =
    if is_named ignores_case name (codes "account1") then Some fields.Account1
    else if is_named ignores_case name (codes "account2") then Some fields.Account2
    else amount_named ignores_case name

-- the field that a name is
unfoldable pub field_named : Bool → List ℕ → Option EntryField
field_named ignores_case name =
    if is_named ignores_case name (codes "date") then Some fields.Date
    else if is_named ignores_case name (codes "status") then Some fields.Status
    else if is_named ignores_case name (codes "code") then Some fields.Code
    else if is_named ignores_case name (codes "description") then Some fields.Description
    else if is_named ignores_case name (codes "comment") then Some fields.Comment
    else account_named ignores_case name

abbrev pub word_for : Option EntryField → Word
word_for (Some field) = words.Field field
word_for None = words.Other

unfoldable pub field_word : List ℕ → Word
field_word word = word_for (field_named false word)

-- what a word is
unfoldable pub word_of : List ℕ → Word
word_of word =
    if bytes_eq word (codes "skip") then words.Skip
    else if bytes_eq word (codes "separator") then words.Separator
    else if bytes_eq word (codes "fields") then words.Fields
    else if bytes_eq word (codes "date-format") then words.DateFormat
    else if bytes_eq word (codes "newest-first") then words.NewestFirst
    else if bytes_eq word (codes "intra-day-reversed") then words.IntradayReversed
    else if bytes_eq word (codes "decimal-mark") then words.DecimalMark
    else if bytes_eq word (codes "if") then words.If
    else field_word word
