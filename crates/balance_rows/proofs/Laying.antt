-- What stays of rows that can be summed can be summed.
use Rattle.std.proofs.Common.{◌≡◌, ◌||◌, Bool, true, false, cond, List, [], ◌∷◌, filter}
use Rattle.std.specs.List.{AllByRecursion}
use Rattle.balance_rows.specs.Fitting.{ColumnsFit, OrderFits, RowFits}
use Rattle.balance_rows.specs.Rows.{Row, is_shown, shown_rows}
use Rattle.balance_rows.specs.declared.layout.Basis.{Basis}
use Rattle.balance_rows.specs.declared.layout.Basis.TheVariants.{Changes}
use Rattle.balance_rows.specs.declared.layout.Order.{Order}
use Rattle.balance_rows.specs.declared.layout.Order.TheVariants.{Amounts, Tree}
use Rattle.balance_rows.proofs.TreesLaws.{fit_filter}

all-filter : {X : Type 0} (P : X → Type 0) (p : X → Bool) (xs : List X) → AllByRecursion P xs → AllByRecursion P (filter p xs)
all-filter P p [] h = tt
all-filter P p (x ∷ xs) h =
    elim (p x) as (λ b. AllByRecursion P (cond b (x ∷ filter p xs) (filter p xs))) [
      | true ↦ (h.0, all-filter P p xs h.1)
      | false ↦ all-filter P p xs h.1
    ]

pub shown_columns : (empty : Bool) (rows : List Row) → ColumnsFit rows → ColumnsFit (shown_rows empty rows)
shown_columns empty rows fit at = fit_filter (λ (row : Row). empty || is_shown row) at rows (fit at)

pub shown_totals : (empty : Bool) (rows : List Row) → AllByRecursion RowFits rows → AllByRecursion RowFits (shown_rows empty rows)
shown_totals empty rows fit = all-filter RowFits (λ (row : Row). empty || is_shown row) rows fit

-- cells of changes can be laid out in any order
pub fit_in_order : (order : Order) (basis : Basis) (rows : List Row) → ColumnsFit rows → AllByRecursion RowFits rows → OrderFits order basis rows
fit_in_order order basis rows columns each = record { tree = λ e. columns; totals = λ e k. each }
