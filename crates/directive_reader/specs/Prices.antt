-- `P DATE [H:M[:S]] SYMBOL AMOUNT`.
use Rattle.std.specs.Prelude.{ℕ, ◌+◌, ◌-◌, ◌*◌, Bool, false, ◌&&◌, ◌||◌, not, List, [], ◌∷◌, nat_le, if◌then◌else◌, drop, Result, Ok, Err}
use Rattle.std.specs.List.{prefix_len, take_while}
use Rattle.hl_base.specs.Ascii.{colon, digit_zero}
use Rattle.hl_base.specs.Items.{is_white}
use Rattle.hl_num.specs.Reading.{is_digit}
use Rattle.book.specs.declared.directive.Price.{Price}
use Rattle.book.specs.declared.fault.Fault.{Fault}
use Rattle.book.specs.declared.fault.Cause.TheVariants as cause
use Rattle.entry_reader.specs.Amounts.{amount_at}
use Rattle.entry_reader.specs.Causes.{fault_at, ◌>>=◌}
use Rattle.entry_reader.specs.Contexts.{Context}
use Rattle.entry_reader.specs.Heads.{day_at}
use Rattle.entry_reader.specs.Lines.{before_byte, after_byte, has_byte, after_white}
use Rattle.entry_reader.specs.Postings.{ends_line}
use Rattle.entry_reader.specs.Symbols.{symbol_name, after_symbol}
use Rattle.directive_reader.specs.Commodities.{is_symbol}
use Rattle.directive_reader.specs.Endings.{closing}

-- an hour, a minute or a second: one or two digits of a number that isn't above the last one
abbrev pub is_part : ℕ → List ℕ → Bool
is_part last [] = false
is_part last (a ∷ []) = is_digit a
is_part last (a ∷ b ∷ []) = is_digit a && is_digit b && nat_le (10 * (a - digit_zero) + (b - digit_zero)) last
is_part last (a ∷ b ∷ c ∷ rest) = false

-- a minute, and perhaps a second after a colon
abbrev pub is_after_hour : List ℕ → Bool
is_after_hour text = is_part 59 (before_byte colon text) && (not (has_byte colon text) || is_part 59 (after_byte colon text))

-- a time of day
unfoldable pub is_time : List ℕ → Bool
is_time word = has_byte colon word && is_part 23 (before_byte colon word) && is_after_hour (after_byte colon word)

-- the bytes of a word
abbrev pub is_inked : ℕ → Bool
is_inked b = not (is_white b)

-- what follows a time and white space, where a time stands first; it isn't kept
abbrev pub after_time : List ℕ → List ℕ
after_time text = if is_time (take_while is_inked text) then after_white (drop (prefix_len is_inked text) text) else text

-- a symbol, and what follows it and white space
unfoldable pub symbol_at : ℕ → List ℕ → Result (List ℕ × List ℕ) Fault
symbol_at line text =
    if ends_line text then Err (fault_at line cause.Form)
    else if is_symbol text then Ok (symbol_name text, after_white (after_symbol text))
    else Err (fault_at line cause.Quote)

unfoldable pub price_of : Context → ℕ → List ℕ → List (List ℕ) → Result Price Fault
price_of context line text after = do
  day ← day_at context.year line text
  symbol ← symbol_at line (after_time day.1)
  a ← amount_at context line symbol.1
  done ← closing line a.1 after
  Ok (record { day = record { 0 = day.0 }; symbol = symbol.0; amount = a.0 })
