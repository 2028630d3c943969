-- What an index keeps of the rows that were put in.
use Rattle.std.specs.Prelude.{◌≤◌, ℕ, ℤ, ◌&&◌, List, filter}
use Rattle.std.specs.List.{AllByRecursion}
use Rattle.live_index.specs.declared.row.Row.{Row}
use Rattle.live_index.specs.Rows.{sum_by, TurnoverFits}
use Rattle.live_index.specs.Runs.{Alike}
use Rattle.live_index.specs.Cells.{Key, Cell, AreCells, counts_for, is_part, told}
use Rattle.live_index.specs.Standing.{standing}

-- the sum of the mantissas of a key's rows with a number of decimals before a day
abbrev pub mantissas_before : List Row → Key → ℕ → ℕ → ℤ
mantissas_before rows key places end =
    sum_by (λ row. row.value.mantissa) (filter (λ row. counts_for key row && is_part row places end) rows)

-- the cells hold the sums of the rows, modulo 2^128, and none that tells nothing
pub record AreSums (rows : List Row) (kept : List Cell) : Type 0 where
  pub cells : AreCells kept
  pub sums : (key : Key) (places end : ℕ) → Alike (told key kept places end) (mantissas_before rows key places end)
  pub few : AllByRecursion (λ row. row.value.places ≤ 36) rows

-- what an index keeps: sums of the rows that were put in, of which those that stand keep the bound on turnovers
pub record IsKept (rows : List Row) (cells : List Cell) : Type 0 where
  pub sums : AreSums rows cells
  pub fits : TurnoverFits (standing rows)
