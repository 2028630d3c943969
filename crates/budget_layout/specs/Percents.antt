-- Percentages of goals, and which of them can't be told.
use Rattle.std.specs.Prelude.{ℕ, ℤ, pos, ◌+◌, ◌*◌, ◌^◌, Bool, not, ◌||◌, nat_le, int_lt, List, [], ◌∷◌, Option, Some, None, if◌then◌else◌, unsigned_abs}
use Rattle.std.specs.Str.{bytes_eq}
use Rattle.hl_num.specs.Decimal.{Decimal}
use Rattle.hl_num.specs.Rounding.{half_even, with_sign}
use Rattle.book.specs.Mixed.{is_zero}
use Rattle.report_cells.specs.Report.{Sums}
use Rattle.balance_rows.specs.Rows.{has_sums}
use Rattle.hl_num.specs.Shortest.{shortest}
use Rattle.budget_layout.specs.declared.percent.Percent.{Percent}
use Rattle.budget_layout.specs.declared.percent.Percent.TheVariants.{Missing, Told, OutOfRange}

-- what some sums come to in a symbol, where they have no other
abbrev pub alone_in : List ℕ → Sums → Option ℤ
alone_in symbol [] = Some (pos 0)
alone_in symbol (sum ∷ sums) =
    if has_sums sums then None else (if bytes_eq sum.0 symbol then Some sum.1 else None)

-- 100 times the amount's mantissa times a power of ten for the goal's decimals, or the goal's mantissa times one for
-- the amount's, reaches 2^127
abbrev pub is_past : Decimal → Decimal → Bool
is_past amount goal =
    nat_le (2 ^ 127) (unsigned_abs amount.mantissa * 10 ^ (goal.places + 2))
    || nat_le (2 ^ 127) (unsigned_abs goal.mantissa * 10 ^ amount.places)

-- one of them is below zero and the other isn't
abbrev pub are_opposite : Decimal → Decimal → Bool
are_opposite amount goal =
    if int_lt amount.mantissa (pos 0) then not (int_lt goal.mantissa (pos 0)) else int_lt goal.mantissa (pos 0)

-- 100 times an amount by a goal, half to even, as a whole number
abbrev pub percent_of : Decimal → Decimal → Decimal
percent_of amount goal =
    let part = unsigned_abs amount.mantissa * 10 ^ (goal.places + 2) in
    let whole = unsigned_abs goal.mantissa * 10 ^ amount.places in
    record { mantissa = with_sign (are_opposite amount goal) (half_even part whole); places = 0 }

abbrev pub percent_told : Decimal → Decimal → Percent
percent_told amount goal = if is_past amount goal then OutOfRange else Told (percent_of amount goal)

-- what an amount is of a goal, if there is one and the goal isn't zero; both in as few decimals as they need
abbrev pub percent_by : Option ℤ → Decimal → Percent
percent_by None goal = Missing
percent_by (Some amount) goal = if is_zero goal then Missing else percent_told (shortest amount) goal

-- what amounts without another symbol are of a goal
abbrev pub percent_beside : Sums → List ℕ × ℤ → Percent
percent_beside actual goal = percent_by (alone_in goal.0 actual) (shortest goal.1)

-- the percentage that amounts are of goals of one symbol
abbrev pub percent_in : Sums → Sums → Percent
percent_in actual [] = Missing
percent_in actual (goal ∷ goals) = if has_sums goals then Missing else percent_beside actual goal

-- the goal's symbol, where the percentage can't be told
abbrev pub out_by : List ℕ → Percent → List (List ℕ)
out_by symbol Missing = []
out_by symbol (Told percent) = []
out_by symbol OutOfRange = symbol ∷ []

abbrev pub percent_out : Sums → Sums → List (List ℕ)
percent_out actual [] = []
percent_out actual (goal ∷ goals) = out_by goal.0 (percent_in actual (goal ∷ goals))
