-- How prices are kept so that they are found fast.
use Rattle.std.specs.Prelude.{◌≡◌, ℕ, Bool, true, false, not, ◌&&◌, ◌<◌, ◌≤◌, List, [], ◌∷◌, ◌++◌, length, slice_index_or, Option, Some, None}
use Rattle.std.specs.List.{list_any}
use Rattle.std.specs.List.Sorted.{IsSorted, IsStable}
use Rattle.std.specs.Str.{bytes_eq}
use Rattle.std.specs.declared.cmp.Ordering.{Ordering}
use Rattle.std.specs.Ordering.{nat_cmp, ordering_then, is_lt}
use Rattle.std.specs.Cmp.Lexicographic.{slice_cmp}
use Rattle.prices.specs.declared.quote.Quote.{Quote}

-- by symbol, then by the symbol in which it is priced, then by day
abbrev pub key_cmp : List ℕ → List ℕ → ℕ → Quote → Ordering
key_cmp symbol target day quote =
    ordering_then (slice_cmp nat_cmp symbol quote.symbol) (ordering_then (slice_cmp nat_cmp target quote.target) (nat_cmp day quote.day.0))

abbrev pub quote_cmp : Quote → Quote → Ordering
quote_cmp a b = key_cmp a.symbol a.target a.day.0 b

-- a price of this pair
abbrev pub is_pair : List ℕ → List ℕ → Quote → Bool
is_pair a b quote = bytes_eq quote.symbol a && bytes_eq quote.target b

abbrev pub has_pair : List ℕ → List ℕ → List Quote → Bool
has_pair a b quotes = list_any (is_pair a b) quotes

-- each pair of the one list stands in the other, in both directions
abbrev pub HasBoth : List Quote → List Quote → Type 0
HasBoth quotes pairs = (a b : List ℕ) → has_pair a b quotes ≡ true → (has_pair a b pairs ≡ true) × (has_pair b a pairs ≡ true)

-- the pair of a price, if it is there, stands in a list
abbrev pub Stands : Option Quote → List Quote → Type 0
Stands None quotes = Unit {0}
Stands (Some quote) quotes = has_pair quote.symbol quote.target quotes ≡ true

-- the price before another, if there is one, is of another pair
abbrev pub is_new : Option Quote → Quote → Bool
is_new None quote = true
is_new (Some before) quote = not (is_pair quote.symbol quote.target before)

-- the same price the other way
abbrev pub turned_round : Quote → Quote
turned_round quote = record { symbol = quote.target; target = quote.symbol; day = quote.day; value = quote.value }

-- some pairs and that of a price in both directions
abbrev pub with_both : Quote → List Quote → List Quote
with_both quote pairs = pairs ++ quote ∷ turned_round quote ∷ []

-- the prices in their order, those of one pair and day in the order of the text; and their pairs, in their order
pub record IsIndex (quotes sorted pairs : List Quote) : Type 0 where
  pub ordered : IsSorted quote_cmp sorted
  pub stable : IsStable quote_cmp quotes sorted
  pub pairs_ordered : IsSorted quote_cmp pairs
  pub both : HasBoth sorted pairs

-- prices up to a key stand before a place, and greater ones from it on
pub record IsBound (sorted : List Quote) (symbol target : List ℕ) (day : ℕ) (low high : ℕ) : Type 0 where
  pub ordered : low ≤ high
  pub within : high ≤ length sorted
  pub before : (i : ℕ) (d : Quote) → i < low → is_lt (key_cmp symbol target day (slice_index_or sorted i d)) ≡ false
  pub after : (i : ℕ) (d : Quote) → high ≤ i → i < length sorted → is_lt (key_cmp symbol target day (slice_index_or sorted i d)) ≡ true
