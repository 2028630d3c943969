-- The amounts of a record.
use Rattle.std.specs.Prelude.{ℕ, Bool, true, false, not, ◌&&◌, ◌||◌, ◌-◌, ◌==◌, nat_le, nat_lt, unsigned_abs, List, [], ◌∷◌, length, take, drop, slice_index, Option, Some, None, option_map, Result, Ok, Err, if◌then◌else◌}
use Rattle.hl_base.specs.Ascii.{close_round, minus, open_round, quote}
use Rattle.hl_num.specs.Decimal.{negated}
use Rattle.book.specs.declared.amount.Amount.{Amount}
use Rattle.book.specs.declared.directive.Directive.TheVariants as directive
use Rattle.book.specs.declared.fault.Fault.{Fault}
use Rattle.book.specs.declared.item.Item.TheVariants as item
use Rattle.entry_reader.specs.Amounts.{amount_alone}
use Rattle.entry_reader.specs.Contexts.{Context, context_of}
use Rattle.entry_reader.specs.Lines.{begins, has_byte}
use Rattle.entry_reader.specs.Symbols.{symbol_name, after_symbol}
use Rattle.csv_entries.specs.Spaces.{stripped}

-- what stands before the amounts of a file: the decimal mark that the rules name, if they name one
abbrev pub context : Option ℕ → Context
context (Some mark) = context_of None (item.Directive (directive.DecimalMark mark) ∷ [])
context None = context_of None []

-- it stands in round brackets
abbrev pub is_bracketed : List ℕ → Bool
is_bracketed text = nat_le 2 (length text) && begins text open_round && (slice_index text (length text - 1) == close_round)

abbrev pub without_last : List ℕ → List ℕ
without_last text = take (length text - 1) text

abbrev pub inside : List ℕ → List ℕ
inside text = stripped (without_last (drop 1 text))

-- two minus signs at the front of an amount cancel
abbrev pub without_two : List ℕ → List ℕ
without_two text = if begins text minus && begins (drop 1 text) minus then drop 1 (drop 1 text) else text

abbrev pub negated_amount : Amount → Amount
negated_amount a = record a { value = negated a.value }

abbrev pub in_ok : {A : Type 0} → Result A Fault → Option A
in_ok (Ok a) = Some a
in_ok (Err f) = None

abbrev pub plain_amount : Context → List ℕ → Option Amount
plain_amount before text = in_ok (amount_alone before (without_two text))

-- the amount that a text writes; in round brackets it is negated
abbrev pub amount_of : Context → List ℕ → Option Amount
amount_of before text =
    if is_bracketed text then option_map negated_amount (plain_amount before (inside text))
    else plain_amount before text

abbrev pub is_zero : Amount → Bool
is_zero a = unsigned_abs a.value.mantissa == 0

-- a text is given
abbrev pub is_given : List ℕ → Bool
is_given text = nat_lt 0 (length text)

-- a symbol in quotes has its second quote, and isn't empty
abbrev pub is_quoted : List ℕ → List ℕ → Bool
is_quoted text name = has_byte quote (drop 1 text) && is_given name

-- all of a text is a symbol, as it would stand before a number
abbrev pub is_symbol : List ℕ → Bool
is_symbol text =
    not (is_given (after_symbol text)) && is_given (symbol_name text)
    && (not (begins text quote) || is_quoted text (symbol_name text))

-- the amount with a symbol left of it and without a space
abbrev pub marked : List ℕ → Amount → Amount
marked symbol a = record a { symbol = symbol; shape = record (a.shape) { left = true; spaced = false } }

-- An amount with the currency that is given; none where the amount has a symbol, and where the currency is none.
abbrev pub in_currency : List ℕ → Amount → Option Amount
in_currency currency a =
    if not (is_given currency) then Some a
    else if is_given a.symbol || not (is_symbol currency) then None
    else Some (marked (symbol_name currency) a)
