-- Values, whatever number of decimals they are kept with, and items at their places.
use Rattle.std.proofs.Common.{◌≡◌, ℕ, ℤ, zero, suc, pos, ◌-◌, ◌+◌, ◌<◌, ◌^◌, ◌*ℤ◌, List, [], ◌∷◌, ◌++◌, map, length, take, get_or, codes, append-nil, refl, sym, ap, ◌∙◌, arith}
use Rattle.std.specs.List.{flat_map}
use Rattle.std.proofs.lemmas.Int.{ints}
use Rattle.std.proofs.lemmas.List.{map-append, take_more}
use Rattle.hl_num.specs.Decimal.{Decimal, units_of}
use Rattle.book.specs.Printed.{printed_units_of}
use Rattle.book.specs.declared.style.Style.{Style}
use Rattle.report_cells.specs.Report.{Sums, row_seen, seen}
use Rattle.report_cells.specs.declared.cells.CellRow.{CellRow}
use Rattle.report_table.specs.Cells.{Cell, amount_text, cell_text, next_amount}
use Rattle.balance_rows.specs.Kept.{KeptSums}
use Rattle.balance_rows.specs.Rows.{Row, cell_at}
use Rattle.balance_layouts.specs.TableRows.{named_seen}
use Rattle.balance_layouts.specs.Tables.{exact, exact_cell}
use Rattle.budget_layout.specs.Beside.{goal_text, percent_text, sums_text}
use Rattle.budget_layout.specs.Percents.{percent_in}
use Rattle.budget_layout.specs.declared.percent.Percent.{Percent}

by_one : (z : ℤ) → z *ℤ pos (10 ^ (36 - 36)) ≡ z
by_one z = omega (arith, ints)

module _ (style : List ℕ → Style) where
  same_amount : (sum : List ℕ × Decimal) → amount_text style sum ≡ amount_text style (exact (sum.0, units_of sum.1))
  same_amount sum = ap (λ (z : ℤ). printed_units_of sum.0 z (style sum.0)) (sym (by_one (units_of sum.1)))

  same_amounts : (sums : Cell) → flat_map (next_amount style) sums ≡ flat_map (next_amount style) (exact_cell (seen sums))
  same_amounts [] = refl
  same_amounts (sum ∷ sums) = λ i. (codes ", " ++ same_amount sum i) ++ same_amounts sums i

  pub same_cell : (cell : Cell) → cell_text style cell ≡ sums_text style (seen cell)
  same_cell [] = refl
  same_cell (sum ∷ sums) = λ i. same_amount sum i ++ same_amounts sums i

  -- a goal behind amounts
  pub goal_shown : (actual : Sums) (goal : KeptSums) (first : List ℕ × Decimal) (rest : KeptSums) (percent : Percent) (old new : List ℕ)
      → goal ≡ first ∷ rest → percent ≡ percent_in actual (seen (first ∷ rest))
      → new ≡ old ++ (codes " [" ++ percent_text percent ++ sums_text style (seen goal) ++ codes "]")
      → new ≡ old ++ goal_text style actual (seen goal)
  goal_shown actual goal first rest percent old new is told h =
      h ∙ (λ i. old ++ (codes " [" ++ percent_text (told i) ++ sums_text style (seen (is i)) ++ codes "]"))
      ∙ sym (ap (λ (g : KeptSums). old ++ goal_text style actual (seen g)) is)

  pub no_goal : (actual : Sums) (goal : KeptSums) (old : List ℕ) → goal ≡ [] → old ≡ old ++ goal_text style actual (seen goal)
  no_goal actual goal old is = sym (append-nil old) ∙ sym (ap (λ (g : KeptSums). old ++ goal_text style actual (seen g)) is)

-- ---- items at their places

pub seen_here : (cells : List KeptSums) (at : ℕ) (cell : KeptSums) → at < length cells → cell ≡ get_or cells at cell
    → seen cell ≡ cell_at at (map seen cells)
seen_here [] at cell within is = absurd (omega arith)
seen_here (c ∷ cells) zero cell within is = ap seen is
seen_here (c ∷ cells) (suc at) cell within is = seen_here cells at cell (omega arith) is

pub named_at : (rows : List (List ℕ × List Cell)) (at : ℕ) → get_or (map named_seen rows) at ([], []) ≡ named_seen (get_or rows at ([], []))
named_at [] at = refl
named_at (row ∷ rows) zero = refl
named_at (row ∷ rows) (suc at) = named_at rows at

-- a row more, made of the item at its place
pub row_more : (f : CellRow → Row) (items made new : List CellRow) (at : ℕ) (item row : CellRow) → at < length items → item ≡ get_or items at item
    → map row_seen made ≡ map f (take at items) → row_seen row ≡ f item → new ≡ made ++ row ∷ [] → map row_seen new ≡ map f (take (at + 1) items)
row_more f items made new at item row within read was is pushed =
    ap (map row_seen) pushed
    ∙ map-append row_seen made (row ∷ [])
    ∙ (λ i. was i ++ is i ∷ [])
    ∙ sym (ap (map f) (take_more items at item within ∙ ap (λ (x : CellRow). take at items ++ x ∷ []) (sym read)) ∙ map-append f (take at items) (item ∷ []))
