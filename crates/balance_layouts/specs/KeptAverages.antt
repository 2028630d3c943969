-- Averages as they are kept: decimals, in cells that are made entry by entry.
use Rattle.std.specs.Prelude.{◌≡◌, ℕ, List, [], ◌∷◌, Option, Some, None, if◌then◌else◌}
use Rattle.std.specs.List.{AllByRecursion}
use Rattle.std.specs.Ordering.{nat_cmp}
use Rattle.std.specs.Cmp.Lexicographic.{slice_cmp}
use Rattle.std.specs.declared.cmp.Ordering.TheVariants.{Less}
use Rattle.hl_num.specs.Decimal.{Decimal, units_of}
use Rattle.book.specs.declared.style.Style.{Style}
use Rattle.book.specs.Mixed.{is_zero}
use Rattle.balance_rows.specs.Kept.{KeptSums}
use Rattle.hl_num.specs.Shortest.{shortest}
use Rattle.balance_layouts.specs.Averages.{average_of, is_past, lesser}

-- a value's average, where it can be told
abbrev pub told_average : ℕ → ℕ → Decimal → Option Decimal
told_average columns places total =
    if is_past columns places total then None
    else Some (record { mantissa = average_of columns places total; places = places })

-- a value in a symbol, unless it is zero
abbrev pub unless_zero : List ℕ → Decimal → KeptSums
unless_zero symbol value = if is_zero value then [] else (symbol, value) ∷ []

-- what an average puts into a cell
abbrev pub shown_average : List ℕ → Option Decimal → KeptSums
shown_average symbol None = []
shown_average symbol (Some value) = unless_zero symbol value

-- what it makes of the least symbol whose average can't be told
abbrev pub least_beside : Option (List ℕ) → List ℕ → Option Decimal → Option (List ℕ)
least_beside least symbol None = lesser least symbol
least_beside least symbol (Some value) = least

-- an entry's average, as it is kept
abbrev pub entry_average : ℕ → (List ℕ → Style) → List ℕ × Decimal → Option Decimal
entry_average columns style entry = told_average columns (style entry.0).places (shortest (units_of entry.1))

abbrev pub kept_average : ℕ → (List ℕ → Style) → List ℕ × Decimal → KeptSums
kept_average columns style entry = shown_average entry.0 (entry_average columns style entry)

-- the symbols of some entries stand before another
abbrev pub StandBefore : List ℕ → KeptSums → Type 0
StandBefore symbol entries = AllByRecursion (λ entry. slice_cmp nat_cmp entry.0 symbol ≡ Less) entries
