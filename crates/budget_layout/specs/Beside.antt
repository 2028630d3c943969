-- The text of amounts beside their goals.
use Rattle.std.specs.Prelude.{ℕ, List, [], ◌∷◌, ◌++◌, map, length, codes}
use Rattle.std.specs.List.{flat_map, range_with_len}
use Rattle.hl_num.specs.Printing.{printed_number}
use Rattle.book.specs.Printed.{plain_number_shape}
use Rattle.book.specs.declared.style.Style.{Style}
use Rattle.report_cells.specs.Report.{Sums}
use Rattle.report_table.specs.Cells.{cell_text}
use Rattle.balance_rows.specs.Rows.{cell_at}
use Rattle.balance_layouts.specs.Tables.{exact_cell}
use Rattle.budget_layout.specs.Percents.{percent_in, percent_out}
use Rattle.budget_layout.specs.declared.percent.Percent.{Percent}
use Rattle.budget_layout.specs.declared.percent.Percent.TheVariants.{Missing, Told, OutOfRange}

-- sums as tables show them
abbrev pub sums_text : (List ℕ → Style) → Sums → List ℕ
sums_text style sums = cell_text style (exact_cell sums)

-- `P% of `, where there is a percentage that can be told
abbrev pub percent_text : Percent → List ℕ
percent_text Missing = []
percent_text (Told percent) = printed_number percent 0 plain_number_shape ++ codes "% of "
percent_text OutOfRange = []

-- ` [P% of G]` or ` [G]`; nothing beside a goal of zero
abbrev pub goal_text : (List ℕ → Style) → Sums → Sums → List ℕ
goal_text style actual [] = []
goal_text style actual (goal ∷ goals) =
    codes " [" ++ percent_text (percent_in actual (goal ∷ goals)) ++ sums_text style (goal ∷ goals) ++ codes "]"

-- a cell: amounts, and behind them their goal
abbrev pub budget_cell : (List ℕ → Style) → Sums → Sums → List ℕ
budget_cell style actual goals = sums_text style actual ++ goal_text style actual goals

-- the cells of a row, each beside that of its goals
abbrev pub beside : (List ℕ → Style) → List Sums → List Sums → List (List ℕ)
beside style actual goals =
    map (λ at. budget_cell style (cell_at at actual) (cell_at at goals)) (range_with_len 0 (length actual))

-- the symbols in which a percentage of theirs can't be told
abbrev pub beside_out : List Sums → List Sums → List (List ℕ)
beside_out actual goals =
    flat_map (λ at. percent_out (cell_at at actual) (cell_at at goals)) (range_with_len 0 (length actual))
