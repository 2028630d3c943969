-- What the search for chains keeps.
use Rattle.std.specs.Prelude.{◌≡◌, ℕ, zero, suc, ◌+◌, nat_le, if◌then◌else◌, List, [], ◌∷◌, length, Option, Some, None, Result, Ok, Err}
use Rattle.std.specs.Option.{option_or, option_map, option_to_list}
use Rattle.std.specs.List.{flat_map}
use Rattle.std.specs.Str.{bytes_eq}
use Rattle.std.specs.Ordering.{nat_cmp}
use Rattle.std.specs.Cmp.Lexicographic.{slice_cmp}
use Rattle.std.specs.BTreeMap.{is_at}
use Rattle.std.specs.Map.{lookup}
use Rattle.prices.specs.declared.quote.Quote.{Quote}
use Rattle.prices.specs.Fraction.{Fraction}
use Rattle.prices.specs.declared.rate.RateRange.{RateRange}
use Rattle.prices.specs.declared.search.Found.{Found}
use Rattle.prices.specs.Fractions.{product_of}
use Rattle.prices.specs.Step.{Step}

-- the step of a pair, where it has a rate
abbrev pub step_of : (List ℕ → List ℕ → Option Fraction) → Quote → List Step
step_of rate pair =
    option_to_list (option_map (λ r. record { from = pair.symbol; to = pair.target; rate = r }) (rate pair.symbol pair.target))

abbrev pub steps_of : (List ℕ → List ℕ → Option Fraction) → List Quote → List Step
steps_of rate pairs = flat_map (step_of rate) pairs

-- the way of a symbol among those that are kept
abbrev pub way_in : List (List ℕ × Found) → List ℕ → Option Found
way_in kept symbol = lookup (is_at (slice_cmp nat_cmp symbol)) kept

-- what is kept of each symbol is what is known of it
abbrev pub AreWays : List (List ℕ × Found) → (List ℕ → Option Found) → Type 0
AreWays kept known = (symbol : List ℕ) → way_in kept symbol ≡ known symbol

-- what goes on by a step to a symbol that was found at that level or below
abbrev pub onward : ℕ → Step → Option Found → Option Found
onward level step None = None
onward level step (Some next) =
    if nat_le next.level level then Some (record { level = level + 1; rates = step.rate ∷ next.rates }) else None

-- the way of a symbol by one step
abbrev pub by_step : ℕ → (List ℕ → Option Found) → Step → List ℕ → Option Found
by_step level found step symbol = if bytes_eq step.from symbol then onward level step (found step.to) else None

-- what is known of a symbol after one more step
abbrev pub with_step : ℕ → (List ℕ → Option Found) → Step → List ℕ → Option Found
with_step level found step symbol = option_or (found symbol) (by_step level found step symbol)

-- the first way on from a symbol, by some steps in their order
abbrev pub first_on : ℕ → (List ℕ → Option Found) → List ℕ → List Step → Option Found
first_on level found symbol [] = None
first_on level found symbol (step ∷ steps) =
    option_or (by_step level found step symbol) (first_on level found symbol steps)

-- what is known of a symbol after some steps of a level
abbrev pub after_steps : ℕ → (List ℕ → Option Found) → List Step → List ℕ → Option Found
after_steps level found steps symbol = option_or (found symbol) (first_on level found symbol steps)

-- what is known of a symbol after so many levels
abbrev pub found_within : List Step → List ℕ → ℕ → List ℕ → Option Found
found_within steps target zero symbol = if bytes_eq symbol target then Some (record { level = 0; rates = [] }) else None
found_within steps target (suc level) symbol = after_steps level (found_within steps target level) steps symbol

-- of the way by declared prices and the way by prices of either kind, the one that is taken
abbrev pub chosen : Option Found → Option Found → Option Found
chosen declared None = None
chosen declared (Some any) = if nat_le (length any.rates) 1 then Some any else option_or declared (Some any)

-- what a way is worth
abbrev pub worth : Option Found → Result (Option Fraction) RateRange
worth None = Ok None
worth (Some found) = elim (product_of found.rates) [ Ok rate ↦ Ok (Some rate) | Err range ↦ Err range ]
