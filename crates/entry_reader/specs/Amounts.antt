-- Amounts: `[SIGN] [SYMBOL] [SIGN] NUMBER [SYMBOL]`, with at most one sign and one symbol.
use Rattle.std.specs.Prelude.{ℕ, Bool, false, true, ◌&&◌, ◌||◌, not, List, [], ◌∷◌, nat_lt, nat_eq, if◌then◌else◌, length, drop, codes, Option, Some, None, Result, Ok, Err}
use Rattle.std.specs.List.{prefix_len, take_while, starts_with}
use Rattle.hl_base.specs.Ascii.{asterisk, equals, line_feed, minus}
use Rattle.hl_base.specs.Items.{is_white}
use Rattle.hl_num.specs.Decimal.{Decimal, negated}
use Rattle.hl_num.specs.Reading.{is_number_byte, reading}
use Rattle.hl_num.specs.declared.reading.Number.{Number}
use Rattle.hl_num.specs.declared.reading.BadNumber.{BadNumber}
use Rattle.book.specs.declared.amount.Amount.{Amount}
use Rattle.book.specs.declared.amount.Written.{Written}
use Rattle.book.specs.declared.amount.Assertion.{Assertion}
use Rattle.book.specs.declared.amount.Cost.{Cost}
use Rattle.book.specs.declared.amount.Cost.TheVariants.{Unit, Total}
use Rattle.book.specs.declared.rules.Factor.{Factor}
use Rattle.book.specs.declared.fault.Fault.{Fault}
use Rattle.book.specs.declared.fault.Cause.TheVariants as cause
use Rattle.entry_reader.specs.Causes.{fault_at, ◌>>=◌}
use Rattle.entry_reader.specs.Contexts.{Context, symbol_of, decided_mark}
use Rattle.entry_reader.specs.Lines.{first_is, begins, has_byte, before_byte, after_white, trimmed}
use Rattle.entry_reader.specs.Symbols.{is_sign, ends_amount, symbol_name, after_symbol, is_left_good, is_right_good}

-- what follows a sign and the white space after it, where a sign stands first
abbrev pub after_sign : List ℕ → List ℕ
after_sign text = if first_is is_sign text then after_white (drop 1 text) else text

-- What stands before a number: whether it is negative, a symbol, and whether white space follows the symbol; and the
-- text of which the number is the front.
pub record Left : Type 0 where
  pub is_negative : Bool
  pub symbol : List ℕ
  pub spaced : Bool
  pub rest : List ℕ

abbrev pub left_of : Bool → List ℕ → Bool → List ℕ → Left
left_of is_negative symbol spaced rest = record { is_negative = is_negative; symbol = symbol; spaced = spaced; rest = rest }

-- the part from the symbol on
abbrev pub left_from : ℕ → List ℕ → List ℕ → Result Left Fault
left_from line text inner =
    let second = after_white (after_symbol inner) in
    if not (is_left_good inner) then Err (fault_at line cause.Quote)
    else if first_is is_sign text && first_is is_sign second then Err (fault_at line cause.Number)
    else Ok (left_of (begins text minus || begins second minus) (symbol_name inner) (first_is is_white (after_symbol inner)) (after_sign second))

unfoldable pub left_at : ℕ → List ℕ → Result Left Fault
left_at line text = left_from line text (after_sign text)

-- What stands behind a number: a symbol, whether white space stands before it, whether it is of its form, and what
-- follows.
pub record Right : Type 0 where
  pub symbol : List ℕ
  pub spaced : Bool
  pub is_good : Bool
  pub rest : List ℕ

abbrev pub right_with : List ℕ → Bool → Bool → List ℕ → Right
right_with symbol spaced is_good rest = record { symbol = symbol; spaced = spaced; is_good = is_good; rest = rest }

-- the part after the white space behind the number
abbrev pub right_from : Bool → Bool → List ℕ → Right
right_from has_symbol spaced text =
    if has_symbol || ends_amount text then right_with [] false true text
    else right_with (symbol_name text) spaced (is_right_good text) (after_white (after_symbol text))

unfoldable pub right_at : Bool → List ℕ → Right
right_at has_symbol text = right_from has_symbol (first_is is_white text) (after_white text)

-- the number that was read, or the fault of its line
abbrev pub number_or_fault : ℕ → Result Number BadNumber → Result Number Fault
number_or_fault line (Ok number) = Ok number
number_or_fault line (Err bad) = Err (fault_at line cause.Number)

abbrev pub signed : Bool → Decimal → Decimal
signed is_negative value = if is_negative then negated value else value

-- how an amount is written
abbrev pub shape_from : Bool → Bool → Number → Written
shape_from is_left spaced number = record {
  left = is_left;
  spaced = spaced;
  mark = number.mark;
  group = number.group;
  first = number.first;
  rest = number.rest;
}

-- the symbol that is written on one side or the other
abbrev pub written_symbol : Left → Right → List ℕ
written_symbol left right = if nat_lt 0 (length left.symbol) then left.symbol else right.symbol

-- the amount of its parts
abbrev pub amount_from : Context → Left → Right → Number → Amount
amount_from context left right number = record {
  symbol = symbol_of context (written_symbol left right);
  value = signed left.is_negative number.value;
  shape = (let is_left = nat_lt 0 (length left.symbol) in shape_from is_left (if is_left then left.spaced else right.spaced) number);
}

-- what follows the number, where what stood before it had a symbol or not
abbrev pub right_of : Left → Right
right_of left = right_at (nat_lt 0 (length left.symbol)) (drop (prefix_len is_number_byte left.rest) left.rest)

-- The amount that a text begins with, and what follows it and white space. The number's digits and marks end it, so a
-- number that is none comes before a symbol behind it that is none.
unfoldable pub amount_at : Context → ℕ → List ℕ → Result (Amount × List ℕ) Fault
amount_at context line text = do
  left ← left_at line text
  number ← number_or_fault line (reading (take_while is_number_byte left.rest) (decided_mark context (written_symbol left (right_of left))))
  if (right_of left).is_good then Ok (amount_from context left (right_of left) number, (right_of left).rest) else Err (fault_at line cause.Quote)

-- what decides the mark of a factor, of which this symbol is written: without one, that in force alone
abbrev pub factor_mark : Context → List ℕ → Option ℕ
factor_mark context [] = context.mark
factor_mark context (b ∷ bs) = decided_mark context (b ∷ bs)

abbrev pub factor_symbol : List ℕ → Option (List ℕ)
factor_symbol [] = None
factor_symbol (b ∷ bs) = Some (b ∷ bs)

abbrev pub factor_from : Bool → Right → Number → Factor
factor_from is_negative right number = record { by = signed is_negative number.value; symbol = factor_symbol right.symbol }

-- The factor that a text behind a `*` begins with, and what follows it and white space: a sign if any, a number, and a
-- symbol if any.
abbrev pub factor_from_right : Context → ℕ → Bool → List ℕ → Right → Result (Factor × List ℕ) Fault
factor_from_right context line is_negative digits right =
    number_or_fault line (reading digits (factor_mark context right.symbol))
    >>= λ number. if right.is_good then Ok (factor_from is_negative right number, right.rest) else Err (fault_at line cause.Quote)

unfoldable pub factor_at : Context → ℕ → List ℕ → Result (Factor × List ℕ) Fault
factor_at context line text =
    let rest = after_sign text in
    factor_from_right context line (begins text minus) (take_while is_number_byte rest)
    (right_at false (drop (prefix_len is_number_byte rest) rest))

-- the sign of an assertion: `=`, or `==` where it speaks of every symbol; and then `*` where it speaks of the accounts
-- below too
abbrev pub is_only : List ℕ → Bool
is_only text = begins (drop 1 text) equals

abbrev pub after_equals : List ℕ → List ℕ
after_equals text = if is_only text then drop 1 (drop 1 text) else drop 1 text

abbrev pub is_below : List ℕ → Bool
is_below text = begins (after_equals text) asterisk

abbrev pub after_claim : List ℕ → List ℕ
after_claim text = if is_below text then drop 1 (after_equals text) else after_equals text

abbrev pub assertion_from : Bool → Bool → Amount → Assertion
assertion_from only below amount = record { amount = amount; only = only; below = below }

-- the assertion of a text that begins with its sign, and what follows it and white space
unfoldable pub assertion_at : Context → ℕ → List ℕ → Result (Assertion × List ℕ) Fault
assertion_at context line text = do
  a ← amount_at context line (after_white (after_claim text))
  Ok (assertion_from (is_only text) (is_below text) a.0, a.1)

-- how many bytes the mark of a total cost has, and of a unit cost; none where it doesn't stand
abbrev pub total_mark : List ℕ → ℕ
total_mark text = if starts_with nat_eq text (codes "@@") then 2 else if starts_with nat_eq text (codes "(@@)") then 4 else 0

abbrev pub unit_mark : List ℕ → ℕ
unit_mark text = if starts_with nat_eq text (codes "@") then 1 else if starts_with nat_eq text (codes "(@)") then 3 else 0

-- the cost that a text begins with, and what follows it
unfoldable pub cost_at : Context → ℕ → List ℕ → Result (Option Cost × List ℕ) Fault
cost_at context line text =
    if nat_lt 0 (total_mark text) then (do
      a ← amount_at context line (after_white (drop (total_mark text) text))
      Ok (Some (Total a.0), a.1))
    else if nat_lt 0 (unit_mark text) then (do
      a ← amount_at context line (after_white (drop (unit_mark text) text))
      Ok (Some (Unit a.0), a.1))
    else Ok (None, text)

-- nothing may follow
abbrev pub alone : {A : Type 0} → Bool → A × List ℕ → Result A Fault
alone is_line (a, []) = if is_line then Ok a else Err (fault_at 1 cause.Form)
alone is_line (a, b ∷ bs) = Err (fault_at 1 cause.Form)

abbrev pub alone_of : {A : Type 0} → Bool → Result (A × List ℕ) Fault → Result A Fault
alone_of is_line read = read >>= λ a. alone is_line a

-- a whole text as one amount, but for white space at its ends; its first line is read first, and another is no part of it
unfoldable pub amount_alone : Context → List ℕ → Result Amount Fault
amount_alone context text = alone_of (not (has_byte line_feed text)) (amount_at context 1 (trimmed (before_byte line_feed text)))
