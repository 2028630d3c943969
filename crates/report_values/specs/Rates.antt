-- What a symbol is worth in another on a day: the product along the least of all chains.
use Rattle.std.specs.Prelude.{ℕ, zero, suc, List, [], ◌∷◌, map, filter, Option, Some, None, Result, Ok, Err, if◌then◌else◌}
use Rattle.std.specs.List.{flat_map}
use Rattle.std.specs.declared.cmp.Ordering.{Ordering}
use Rattle.std.specs.Ordering.{is_gt}
use Rattle.prices.specs.declared.quote.Quote.{Quote}
use Rattle.prices.specs.declared.rate.RateRange.{RateRange}
use Rattle.prices.specs.Fraction.{Fraction}
use Rattle.prices.specs.Fractions.{product_of}
use Rattle.prices.specs.Chains.{Pricing, priced_on, declared, either, is_chain, rates_along, class_of, chain_cmp}

-- the symbols that prices are of and in
abbrev pub symbols_of : List Quote → List (List ℕ)
symbols_of quotes = flat_map (λ quote. quote.symbol ∷ quote.target ∷ []) quotes

-- the lists of at most so many of some symbols
abbrev pub lists_of : List (List ℕ) → ℕ → List (List (List ℕ))
lists_of symbols zero = [] ∷ []
lists_of symbols (suc most) = [] ∷ flat_map (λ symbol. map (λ list. symbol ∷ list) (lists_of symbols most)) symbols

-- the chains from a symbol to a target
unfoldable pub chains_of : List Quote → ℕ → List ℕ → List ℕ → List (List (List ℕ))
chains_of quotes day target from =
    filter (is_chain (either (priced_on quotes day)) target from) (lists_of (symbols_of quotes) 16)

-- the lesser of a chain and another, if there is one
abbrev pub lesser_chain : (List (List ℕ) → List (List ℕ) → Ordering) → List (List ℕ) → Option (List (List ℕ)) → List (List ℕ)
lesser_chain cmp chain None = chain
lesser_chain cmp chain (Some other) = if is_gt (cmp chain other) then other else chain

-- the least of some chains
abbrev pub least_chain : (List (List ℕ) → List (List ℕ) → Ordering) → List (List (List ℕ)) → Option (List (List ℕ))
least_chain cmp [] = None
least_chain cmp (chain ∷ chains) = Some (lesser_chain cmp chain (least_chain cmp chains))

-- a product that can be told, or the fraction so far
abbrev pub told_product : Result Fraction RateRange → Result (Option Fraction) RateRange
told_product (Ok rate) = Ok (Some rate)
told_product (Err range) = Err range

-- the product along a chain
abbrev pub product_along : (List ℕ → List ℕ → Option Fraction) → List ℕ → Option (List (List ℕ)) → Result (Option Fraction) RateRange
product_along rate from None = Ok None
product_along rate from (Some chain) = told_product (product_of (rates_along rate from chain))

-- the product along the least chain; nothing where there is no chain; or the fraction so far, where the product can't
-- be taken further
unfoldable pub rate_on : List Quote → ℕ → List ℕ → List ℕ → Result (Option Fraction) RateRange
rate_on quotes day target from =
    product_along (either (priced_on quotes day)) from
    (least_chain (chain_cmp (class_of (declared (priced_on quotes day)) target from)) (chains_of quotes day target from))
