-- How a word reads as a term.
use Rattle.std.specs.Prelude.{ℕ, ◌+◌, ◌-◌, ◌^◌, min, Bool, true, false, not, ◌&&◌, ◌||◌, ◌==◌, nat_le, nat_lt, nat_eq, unsigned_abs, List, [], ◌∷◌, ◌++◌, drop, codes, Option, Some, None, Result, Ok, Err, option_map, if◌then◌else◌}
use Rattle.std.specs.List.{starts_with, list_any, list_all, flat_map, before_first, after_first}
use Rattle.std.specs.Str.{bytes_eq}
use Rattle.std.specs.Str.Parse.{digits_value}
use Rattle.hl_base.specs.Ascii.{begins, colon, digit_zero, equals, minus, plus}
use Rattle.hl_num.specs.Decimal.{Decimal, negated}
use Rattle.hl_num.specs.Reading.{begins_number, is_digit, most, number_of}
use Rattle.hl_num.specs.declared.reading.Number.{Number}
use Rattle.hl_time.specs.Periods.{period_of, IsPeriod}
use Rattle.hl_time.specs.declared.fault.TimeFault.{TimeFault}
use Rattle.hl_time.specs.declared.spans.Period.{Period}
use Rattle.book.specs.declared.transaction.Mark.{Mark}
use Rattle.book.specs.declared.transaction.Mark.TheVariants as marks
use Rattle.query_terms.specs.declared.kinds.AmountTest.{AmountTest}
use Rattle.query_terms.specs.declared.kinds.Field.TheVariants as fields
use Rattle.query_terms.specs.declared.kinds.Kind.{Kind}
use Rattle.query_terms.specs.declared.kinds.Kind.TheVariants as kinds
use Rattle.query_terms.specs.declared.kinds.Order.{Order}
use Rattle.query_terms.specs.declared.kinds.Order.TheVariants as orders
use Rattle.query_terms.specs.declared.kinds.Pattern.{Pattern}
use Rattle.query_terms.specs.declared.kinds.Pattern.TheVariants as patterns
use Rattle.query_terms.specs.declared.kinds.Term.{Term}
use Rattle.query_terms.specs.declared.reading.Head.{Head}
use Rattle.query_terms.specs.declared.reading.Head.TheVariants as heads
use Rattle.query_terms.specs.Patterns.{pattern_of, symbol_of}

-- what stands before the first such byte, or all of the text
abbrev pub before_byte : ℕ → List ℕ → List ℕ
before_byte byte text = before_first (λ b. b == byte) text

-- what stands after the first such byte, or nothing
abbrev pub after_byte : ℕ → List ℕ → List ℕ
after_byte byte text = after_first (λ b. b == byte) text

abbrev pub has_byte : ℕ → List ℕ → Bool
has_byte byte text = list_any (λ b. b == byte) text

-- it begins with `not:`
abbrev pub begins_not : List ℕ → Bool
begins_not text = starts_with nat_eq text (codes "not:")

-- under how many `not:` a word stands
abbrev pub nots_of : List ℕ → ℕ
nots_of (a ∷ b ∷ c ∷ d ∷ rest) = if begins_not (a ∷ b ∷ c ∷ d ∷ rest) then nots_of rest + 1 else 0
nots_of _ = 0

-- the word under them
abbrev pub bare : List ℕ → List ℕ
bare (a ∷ b ∷ c ∷ d ∷ rest) = if begins_not (a ∷ b ∷ c ∷ d ∷ rest) then bare rest else a ∷ b ∷ c ∷ d ∷ rest
bare text = text

-- the kind that a word before a colon names, if any
abbrev pub head_named : List ℕ → Head
head_named name =
    if bytes_eq name (codes "acct") then heads.Account
    else if bytes_eq name (codes "desc") then heads.Description
    else if bytes_eq name (codes "payee") then heads.Payee
    else if bytes_eq name (codes "note") then heads.Note
    else if bytes_eq name (codes "code") then heads.Code
    else if bytes_eq name (codes "cur") then heads.Symbol
    else if bytes_eq name (codes "amt") then heads.Amount
    else if bytes_eq name (codes "date") then heads.Date
    else if bytes_eq name (codes "depth") then heads.Depth
    else if bytes_eq name (codes "real") then heads.Real
    else if bytes_eq name (codes "status") then heads.Status
    else if bytes_eq name (codes "tag") then heads.Tag
    else if bytes_eq name (codes "type") then heads.Type
    else heads.Bare

-- the kind that a word names before its first colon
unfoldable pub head_of : List ℕ → Head
head_of text = if has_byte colon text then head_named (before_byte colon text) else heads.Bare

-- `<`, `<=`, `>`, `>=` or none of these
abbrev pub order_of : List ℕ → Order
order_of text =
    if begins text 60 then (if begins (drop 1 text) 61 then orders.AtMost else orders.Below)
    else if begins text 62 then (if begins (drop 1 text) 61 then orders.AtLeast else orders.Above)
    else orders.Equal

-- how many bytes it takes
abbrev pub order_size : Order → ℕ
order_size orders.Equal = 0
order_size orders.Below = 1
order_size orders.Above = 1
order_size orders.AtMost = 2
order_size orders.AtLeast = 2

-- it begins with `+` or `-`
abbrev pub has_sign : List ℕ → Bool
has_sign text = begins text plus || begins text minus

abbrev pub with_minus : Bool → Decimal → Decimal
with_minus true number = negated number
with_minus false number = number

abbrev pub is_zero : Decimal → Bool
is_zero d = unsigned_abs d.mantissa == 0

-- a number after an order and a sign; without a sign it stands for absolute values, unless it is zero
abbrev pub test_with : Order → List ℕ → Number → AmountTest
test_with order signed_text number = record {
  order = order;
  signed = has_sign signed_text || is_zero number.value;
  number = with_minus (begins signed_text minus) number.value;
}

abbrev pub signed_test : Order → List ℕ → Option AmountTest
signed_test order text =
    option_map (test_with order text) (number_of (drop (if has_sign text then 1 else 0) text) None)

abbrev pub amount_test : List ℕ → Option AmountTest
amount_test text = signed_test (order_of text) (drop (order_size (order_of text)) text)

-- a period without an interval
abbrev pub plain_period : Result Period TimeFault → Option Period
plain_period (Ok period) = elim period.interval [ None ↦ Some period | Some interval ↦ None ]
plain_period (Err fault) = None

-- the bounds of a term of days are days
abbrev pub HasDays : Kind → Type 0
HasDays (kinds.Date period) = IsPeriod period
HasDays _ = Unit {0}

-- digits without a leading zero; a greater depth than the greatest is that one
abbrev pub depth_of : List ℕ → Option ℕ
depth_of text = if list_all is_digit text && begins_number text then Some (min (digits_value 10 text) most) else None

-- `1` or `0`
abbrev pub real_of : List ℕ → Option Bool
real_of text =
    if bytes_eq text (codes "1") then Some true
    else if bytes_eq text (codes "0") then Some false
    else None

-- `*`, `!` or nothing
abbrev pub status_of : List ℕ → Option Mark
status_of text =
    if bytes_eq text (codes "*") then Some marks.Cleared
    else if bytes_eq text (codes "!") then Some marks.Pending
    else if bytes_eq text [] then Some marks.Unmarked
    else None

-- a letter of an account's type, in either case
abbrev pub upper : ℕ → ℕ
upper b = if nat_le 97 b && nat_le b 122 then b - 32 else b

abbrev pub is_letter : ℕ → Bool
is_letter b = list_any (λ c. c == upper b) (codes "ALERXCV")

-- one letter or more, and nothing else
abbrev pub are_letters : List ℕ → Bool
are_letters text = not (bytes_eq text []) && list_all is_letter text

-- the pattern of a value, where an `=` stands
abbrev pub value_pattern : List ℕ → Option Pattern
value_pattern text = if has_byte equals text then Some (pattern_of (after_byte equals text)) else None

-- what a term that holds no text asks, of the text after its colon
abbrev pub textless : Head → ℕ → List ℕ → Option Kind
textless heads.Amount day text = option_map (λ test. kinds.Amount test) (amount_test text)
textless heads.Date day text = option_map (λ period. kinds.Date period) (plain_period (period_of text day))
textless heads.Depth day text = option_map (λ depth. kinds.Depth depth) (depth_of text)
textless heads.Real day text = option_map (λ real. kinds.Real real) (real_of text)
textless heads.Status day text = option_map (λ mark. kinds.Status mark) (status_of text)
textless _ day text = None

-- what a term of that head asks, of the text after its colon
abbrev pub kind_under : Head → ℕ → List ℕ → Option Kind
kind_under heads.Bare day text = Some (kinds.Account (pattern_of text))
kind_under heads.Account day text = Some (kinds.Account (pattern_of text))
kind_under heads.Description day text = Some (kinds.Said fields.Description (pattern_of text))
kind_under heads.Payee day text = Some (kinds.Said fields.Payee (pattern_of text))
kind_under heads.Note day text = Some (kinds.Said fields.Note (pattern_of text))
kind_under heads.Code day text = Some (kinds.Said fields.Code (pattern_of text))
kind_under heads.Symbol day text = Some (kinds.Symbol (symbol_of text))
kind_under heads.Tag day text = Some (kinds.Tag (pattern_of (before_byte equals text)) (value_pattern text))
kind_under heads.Type day text = if are_letters text then Some (kinds.Type text) else None
kind_under head day text = textless head day text

-- the text that a head looks at: all of it where it names nothing
abbrev pub text_under : Head → List ℕ → List ℕ
text_under heads.Bare text = text
text_under _ text = after_byte colon text

abbrev pub kind_of : ℕ → List ℕ → Option Kind
kind_of day text = kind_under (head_of text) day (text_under (head_of text) text)

abbrev pub term : ℕ → Kind → Term
term nots kind = record { nots = nots; kind = kind }

-- the term that a word reads as, on a day
unfoldable pub term_of : ℕ → List ℕ → Option Term
term_of day word = option_map (term (nots_of word)) (kind_of day (bare word))

abbrev pub and_then : Option Term → Result (List Term) (List ℕ) → List ℕ → Result (List Term) (List ℕ)
and_then None others word = Err word
and_then (Some t) (Ok ts) word = Ok (t ∷ ts)
and_then (Some t) (Err other) word = Err other

-- the terms of some words, or the first word that is no term
abbrev pub terms_of : ℕ → List (List ℕ) → Result (List Term) (List ℕ)
terms_of day [] = Ok []
terms_of day (word ∷ words) = and_then (term_of day word) (terms_of day words) word

-- the sources for which a pattern needs a regex
abbrev pub source_of : Pattern → List (List ℕ)
source_of (patterns.Word word) = []
source_of (patterns.Special source) = source ∷ []

abbrev pub sources_in : Option Pattern → List (List ℕ)
sources_in None = []
sources_in (Some pattern) = source_of pattern

abbrev pub kind_sources : Kind → List (List ℕ)
kind_sources (kinds.Said field pattern) = source_of pattern
kind_sources (kinds.Account pattern) = source_of pattern
kind_sources (kinds.Symbol pattern) = source_of pattern
kind_sources (kinds.Tag name value) = source_of name ++ sources_in value
kind_sources _ = []

-- the sources of the regexes of some terms, in order
abbrev pub sources_of : List Term → List (List ℕ)
sources_of terms = flat_map (λ t. kind_sources t.kind) terms
