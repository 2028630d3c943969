-- The prices of a journal.
use Rattle.std.specs.Prelude.{◌≡◌, ℕ, zero, suc, Bool, true, ◌&&◌, ◌==◌, nat_lt, nat_le, if◌then◌else◌, List, [], ◌∷◌, filter, Option, Some, None}
use Rattle.std.specs.List.{flat_map, list_all, list_any}
use Rattle.std.specs.Option.{option_or, option_map}
use Rattle.std.specs.Str.{bytes_eq}
use Rattle.hl_time.specs.declared.day.Day.{Day}
use Rattle.book.specs.declared.item.Item.{Item}
use Rattle.book.specs.declared.item.Item.TheVariants.{Price}
use Rattle.book.specs.declared.item.Placed.{Placed}
use Rattle.prices.specs.declared.quote.Quote.{Quote}

-- the price that an item declares
abbrev pub quote_in : Item → List Quote
quote_in (Price p) = record { symbol = p.symbol; target = p.amount.symbol; day = p.day; value = p.amount.value } ∷ []
quote_in item = []

-- the prices of a text, in its order
abbrev pub quotes_in : List Placed → List Quote
quotes_in items = flat_map (λ placed. quote_in placed.item) items

-- the last of some prices
abbrev pub last : List Quote → Option Quote
last [] = None
last (quote ∷ quotes) = option_or (last quotes) (Some quote)

-- a price of a symbol in another, declared on a day
abbrev pub is_on : List ℕ → List ℕ → ℕ → Quote → Bool
is_on symbol target day quote = bytes_eq quote.symbol symbol && bytes_eq quote.target target && (quote.day.0 == day)

-- the price of a pair on a day: the latest declared on or before it, and on one day the later in the text
abbrev pub latest : List Quote → List ℕ → List ℕ → ℕ → Option Quote
latest quotes symbol target zero = last (filter (is_on symbol target 0) quotes)
latest quotes symbol target (suc day) =
    option_or (last (filter (is_on symbol target (suc day)) quotes)) (latest quotes symbol target day)

-- of two prices the later, the second standing later in the text
abbrev pub newer : Quote → Option Quote → Quote
newer quote None = quote
newer quote (Some after) = if nat_lt after.day.0 quote.day.0 then quote else after

-- the latest of some prices, and of one day the last
abbrev pub newest : List Quote → Option Quote
newest [] = None
newest (quote ∷ quotes) = Some (newer quote (newest quotes))

-- a price of a symbol in any other, declared on a day or before it
abbrev pub is_of : List ℕ → ℕ → Quote → Bool
is_of symbol day quote = bytes_eq quote.symbol symbol && nat_le quote.day.0 day

-- the latest of a price and those after it
abbrev pub with_quote : List ℕ → ℕ → Quote → Option Quote → Option Quote
with_quote symbol day quote best = if is_of symbol day quote then Some (newer quote best) else best

-- the symbol in which a symbol has its latest price on or before a day
abbrev pub target_on : List Quote → List ℕ → ℕ → Option (List ℕ)
target_on quotes symbol day = option_map (λ quote. quote.target) (newest (filter (is_of symbol day) quotes))

-- the greatest day of a price
pub record IsLastDay (quotes : List Quote) (day : Day) : Type 0 where
  pub greatest : list_all (λ quote. nat_le quote.day.0 day.0) quotes ≡ true
  pub among : list_any (λ quote. quote.day.0 == day.0) quotes ≡ true
