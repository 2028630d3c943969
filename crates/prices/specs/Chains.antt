-- Chains of prices, and the rate along the least of them.
use Rattle.std.specs.Prelude.{◌≡◌, ℕ, ◌==◌, Bool, true, false, ◌&&◌, nat_le, if◌then◌else◌, unsigned_abs, List, [], ◌∷◌, ◌++◌, length, Option, Some, None, is_some, Result, Ok, Err, option_and_then}
use Rattle.std.specs.Option.{option_or, option_map, option_to_list}
use Rattle.std.specs.Str.{bytes_eq}
use Rattle.std.specs.declared.cmp.Ordering.{Ordering}
use Rattle.std.specs.Ordering.{nat_cmp, ordering_then, is_gt}
use Rattle.std.specs.Cmp.Lexicographic.{slice_cmp}
use Rattle.prices.specs.declared.quote.Quote.{Quote}
use Rattle.prices.specs.Fraction.{Fraction}
use Rattle.prices.specs.declared.rate.RateRange.{RateRange}
use Rattle.prices.specs.Fractions.{declared_rate, reverse_rate, product_of}
use Rattle.prices.specs.Quotes.{latest}

-- what pairs are priced by
abbrev pub Pricing : Type 0
Pricing = List ℕ → List ℕ → Option Quote

-- the price of a pair on a day; a price of a symbol in itself counts for no pair
abbrev pub priced_on : List Quote → ℕ → Pricing
priced_on quotes day a b = if bytes_eq a b then None else latest quotes a b day

-- the rate of a declared price
abbrev pub declared : Pricing → List ℕ → List ℕ → Option Fraction
declared price a b = option_map (λ quote. declared_rate quote.value) (price a b)

-- what a price is worth the other way; a price of zero has no reverse
abbrev pub turned : Quote → Option Fraction
turned quote = if unsigned_abs quote.value.mantissa == 0 then None else Some (reverse_rate quote.value)

-- the rate of a reverse price
abbrev pub reverse : Pricing → List ℕ → List ℕ → Option Fraction
reverse price a b = option_and_then turned (price b a)

-- the rate of a price of either kind, a declared one before a reverse one
abbrev pub either : Pricing → List ℕ → List ℕ → Option Fraction
either price a b = option_or (declared price a b) (reverse price a b)

-- from a symbol through those that follow to the target, each neighbouring pair having a rate
abbrev pub leads : (List ℕ → List ℕ → Option Fraction) → List ℕ → List ℕ → List (List ℕ) → Bool
leads rate target symbol [] = bytes_eq symbol target
leads rate target symbol (next ∷ symbols) = is_some (rate symbol next) && leads rate target next symbols

-- A chain from a symbol to the target, written as the symbols that follow the first one: at most 16 of them.
abbrev pub is_chain : (List ℕ → List ℕ → Option Fraction) → List ℕ → List ℕ → List (List ℕ) → Bool
is_chain rate target from symbols = leads rate target from symbols && nat_le (length symbols) 16

-- the rates along a chain
abbrev pub rates_along : (List ℕ → List ℕ → Option Fraction) → List ℕ → List (List ℕ) → List Fraction
rates_along rate symbol [] = []
rates_along rate symbol (next ∷ symbols) = option_to_list (rate symbol next) ++ rates_along rate next symbols

-- the class of a chain: one declared price; one reverse price; declared prices only; prices of either kind
abbrev pub class_of : (List ℕ → List ℕ → Option Fraction) → List ℕ → List ℕ → List (List ℕ) → ℕ
class_of rate target from (next ∷ []) = if is_some (rate from next) then 0 else 1
class_of rate target from symbols = if leads rate target from symbols then 2 else 3

-- by length, then by the list of symbols in the order of their bytes
abbrev pub list_cmp : List (List ℕ) → List (List ℕ) → Ordering
list_cmp a b = ordering_then (nat_cmp (length a) (length b)) (slice_cmp (slice_cmp nat_cmp) a b)

-- the order of chains: by class, then by length, then by the list of symbols
abbrev pub chain_cmp : (List (List ℕ) → ℕ) → List (List ℕ) → List (List ℕ) → Ordering
chain_cmp class a b = ordering_then (nat_cmp (class a) (class b)) (list_cmp a b)

-- a least chain
pub record IsLeast (price : Pricing) (target from : List ℕ) (chain : List (List ℕ)) : Type 0 where
  pub is : is_chain (either price) target from chain ≡ true
  -- no chain is less
  pub least : (other : List (List ℕ)) → is_chain (either price) target from other ≡ true
      → is_gt (chain_cmp (class_of (declared price) target from) chain other) ≡ false

-- the answer is the product along a least chain
pub record IsAlong (price : Pricing) (target from : List ℕ) (answer : Result Fraction RateRange) : Type 0 where
  pub chain : List (List ℕ)
  pub least : IsLeast price target from chain
  pub product : product_of (rates_along (either price) from chain) ≡ answer

-- What a symbol is worth in the target: the product along the least chain; nothing where there is no chain; or the
-- fraction so far, where the product can't be taken further.
abbrev pub IsRate : Pricing → List ℕ → List ℕ → Result (Option Fraction) RateRange → Type 0
IsRate price target from (Ok None) = (chain : List (List ℕ)) → is_chain (either price) target from chain ≡ false
IsRate price target from (Ok (Some rate)) = IsAlong price target from (Ok rate)
IsRate price target from (Err range) = IsAlong price target from (Err range)
