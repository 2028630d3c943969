-- Symbols, as they stand beside numbers.
use Rattle.std.specs.Prelude.{ℕ, Bool, true, ◌&&◌, ◌||◌, not, List, [], ◌∷◌, ◌==◌, nat_lt, nat_le, if◌then◌else◌, length, drop}
use Rattle.std.specs.List.{prefix_len, take_while}
use Rattle.hl_base.specs.Ascii.{at_sign, equals, minus, open_round, plus, quote, semicolon}
use Rattle.hl_base.specs.Items.{is_white}
pub use Rattle.hl_base.specs.Ascii.{is_punctuation}
use Rattle.hl_num.specs.Reading.{is_digit, is_number_byte}
use Rattle.book.specs.Printed.{stands_unquoted}
pub use Rattle.book.specs.Printed.{is_symbol_mark}
use Rattle.entry_reader.specs.Lines.{first_is, begins, before_byte, after_byte, has_byte}

-- what may stand in a symbol without quotes
abbrev pub is_symbol_byte : ℕ → Bool
is_symbol_byte b = stands_unquoted b

-- `+` or `-`
abbrev pub is_sign : ℕ → Bool
is_sign b = (b == plus) || (b == minus)

-- the text has ended, or goes on with a comment, an assertion or a cost
abbrev pub ends_amount : List ℕ → Bool
ends_amount [] = true
ends_amount (b ∷ bs) = (b == semicolon) || (b == equals) || (b == at_sign) || ((b == open_round) && begins bs at_sign)

-- the symbol that a text begins with, without its quotes; empty where none stands there
abbrev pub symbol_name : List ℕ → List ℕ
symbol_name text = if begins text quote then before_byte quote (drop 1 text) else take_while is_symbol_byte text

-- what follows it
abbrev pub after_symbol : List ℕ → List ℕ
after_symbol text = if begins text quote then after_byte quote (drop 1 text) else drop (prefix_len is_symbol_byte text) text

-- a symbol in quotes has its second quote, and isn't empty
abbrev pub is_quoted_well : List ℕ → Bool
is_quoted_well text = has_byte quote (drop 1 text) && nat_lt 0 (length (symbol_name text))

-- before a number: a symbol, or none where the number, its sign or nothing more stands there
abbrev pub is_left_good : List ℕ → Bool
is_left_good text =
    if begins text quote then is_quoted_well text
    else nat_lt 0 (length (symbol_name text)) || first_is (λ b. is_number_byte b || is_sign b) text || ends_amount text

-- behind a number: a symbol without quotes goes to white space or to the amount's end
abbrev pub is_right_good : List ℕ → Bool
is_right_good text =
    if begins text quote then is_quoted_well text
    else nat_lt 0 (length (symbol_name text)) && (first_is is_white (after_symbol text) || ends_amount (after_symbol text))
