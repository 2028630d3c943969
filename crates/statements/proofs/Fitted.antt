-- What a section and the last line sum can be summed.
use Rattle.std.proofs.Common.{◌≡◌, ℕ, true, List, [], ◌++◌, map, append-nil, sym, ap, subst, ◌∙◌}
use Rattle.std.specs.List.{AllByRecursion}
use Rattle.report_cells.specs.Report.{Sums}
use Rattle.balance_rows.specs.declared.layout.Layout.{Layout}
use Rattle.balance_rows.specs.declared.layout.Order.{Order}
use Rattle.balance_rows.specs.declared.layout.Order.TheVariants.{Accounts, Amounts, Tree}
use Rattle.balance_rows.specs.Fitting.{ColumnsFit, Fit, RowFits, column_entries}
use Rattle.balance_rows.specs.Layouts.{laid_rows}
use Rattle.balance_rows.specs.Rows.{Row, cell_at}
use Rattle.balance_rows.specs.Sums.{entries_of}
use Rattle.balance_rows.specs.Trees.{column_sums, roots, tree}
use Rattle.balance_rows.proofs.Fits.{IsPart, fit_part}
use Rattle.balance_rows.proofs.TreesLaws.{part-join}
use Rattle.balance_layouts.specs.Totals.{asks_totals, cells_of}
use Rattle.balance_layouts.proofs.Laid.{laid}
use Rattle.balance_layouts.proofs.Parts.{part-left, part-right, part-then}
use Rattle.balance_layouts.proofs.Sums.{part-column, part-columns}
use Rattle.statements.specs.Chosen.{net_rows, part_totals}
use Rattle.statements.specs.Fits.{NetFits, PartsFit, SectionFits}
use Rattle.statements.specs.Turned.{turned}
use Rattle.statements.proofs.Signs.{part-turned_at, part-turned_cells}

-- ---- the parts of two sections

module _ (layout : Layout) (first second : List Row) (fits : PartsFit layout first second) where
  pub first_columns : ColumnsFit first
  first_columns at =
      fit_part (column_entries at first) (column_entries at first ++ column_entries at second) (part-left (column_entries at first) (column_entries at second)) (fits.columns at)

  pub second_columns : ColumnsFit second
  second_columns at =
      fit_part (column_entries at second) (column_entries at first ++ column_entries at second) (part-right (column_entries at first) (column_entries at second)) (fits.columns at)

  first_cells : asks_totals layout ≡ true → Fit (cells_of first)
  first_cells asked = fit_part (cells_of first) (cells_of first ++ cells_of second) (part-left (cells_of first) (cells_of second)) (fits.totals asked)

  second_cells : asks_totals layout ≡ true → Fit (cells_of second)
  second_cells asked = fit_part (cells_of second) (cells_of first ++ cells_of second) (part-right (cells_of first) (cells_of second)) (fits.totals asked)

  module _ (columns : ℕ) where
    totals_fit : (rows : List Row) (totals : List Sums) → totals ≡ column_sums columns rows → Fit (cells_of rows) → Fit (entries_of totals)
    totals_fit rows totals is fit =
        subst (λ (t : List Sums). Fit (entries_of t)) (sym is)
        (fit_part (entries_of (column_sums columns rows)) (cells_of rows) (part-columns columns rows) fit)

    pub first_fits : (totals : List Sums) → totals ≡ column_sums columns first → SectionFits layout columns first totals
    first_fits totals is = record {
      order = record { tree = λ tree. first_columns; totals = fits.first_ranks };
      of_rows = λ asked. laid layout columns first (first_cells asked);
      of_totals = λ asked. totals_fit first totals is (first_cells asked);
    }

    pub second_fits : (totals : List Sums) → totals ≡ column_sums columns second → SectionFits layout columns second totals
    second_fits totals is = record {
      order = record { tree = λ tree. second_columns; totals = fits.second_ranks };
      of_rows = λ asked. laid layout columns second (second_cells asked);
      of_totals = λ asked. totals_fit second totals is (second_cells asked);
    }

    -- ---- the last line

    abbrev summed_rows : List Row
    summed_rows = net_rows (column_sums columns first) (column_sums columns second)

    net_column : (at : ℕ) → IsPart (column_entries at summed_rows) (column_entries at first ++ column_entries at second)
    net_column at =
        let one = cell_at at (column_sums columns first) in
        let two = cell_at at (map turned (column_sums columns second)) in
        part-join one (two ++ []) (column_entries at first) (column_entries at second)
        (part-column columns at first)
        (subst (λ (t : Sums). IsPart t (column_entries at second)) (sym (append-nil two))
        (part-then two (cell_at at (column_sums columns second)) (column_entries at second)
        (part-turned_at at (column_sums columns second)) (part-column columns at second)))

    net_cells : IsPart (cells_of summed_rows) (cells_of first ++ cells_of second)
    net_cells =
        let one = entries_of (column_sums columns first) in
        let two = entries_of (map turned (column_sums columns second)) in
        part-join one (two ++ []) (cells_of first) (cells_of second)
        (part-columns columns first)
        (subst (λ (t : Sums). IsPart t (cells_of second)) (sym (append-nil two))
        (part-then two (entries_of (column_sums columns second)) (cells_of second)
        (part-turned_cells (column_sums columns second)) (part-columns columns second)))

    summed_fit : NetFits layout summed_rows
    summed_fit = record {
      columns = λ at. fit_part (column_entries at summed_rows) (column_entries at first ++ column_entries at second) (net_column at) (fits.columns at);
      totals = λ asked. fit_part (cells_of summed_rows) (cells_of first ++ cells_of second) net_cells (fits.totals asked);
    }

    pub net_fits : (firsts seconds : List Sums) → firsts ≡ column_sums columns first → seconds ≡ column_sums columns second
        → NetFits layout (net_rows firsts seconds)
    net_fits firsts seconds one two = subst (λ (t : List Sums). NetFits layout (net_rows t seconds)) (sym one)
        (subst (λ (t : List Sums). NetFits layout (net_rows (column_sums columns first) t)) (sym two) summed_fit)

-- the total of the last line
pub net_total : (layout : Layout) (columns : ℕ) (rows : List Row) (sums : List Sums) → NetFits layout rows → sums ≡ column_sums columns rows
    → asks_totals layout ≡ true → Fit (entries_of sums)
net_total layout columns rows sums fits is asked =
    subst (λ (t : List Sums). Fit (entries_of t)) (sym is)
    (fit_part (entries_of (column_sums columns rows)) (cells_of rows) (part-columns columns rows) (fits.totals asked))

-- the totals of a section are told both ways
pub totals_are : (order : Order) (columns : ℕ) (rows : List Row) (totals : List Sums)
    → totals ≡ column_sums columns rows → totals ≡ column_sums columns (roots (tree columns rows)) → totals ≡ part_totals order columns rows
totals_are Accounts columns rows totals flat root = flat
totals_are Amounts columns rows totals flat root = flat
totals_are Tree columns rows totals flat root = root

-- ---- facts on rows that are made

pub rows_laid : (layout : Layout) (columns : ℕ) (rows : List Row) (totals : List Sums) (made : List Row) → SectionFits layout columns rows totals
    → made ≡ laid_rows layout columns rows → asks_totals layout ≡ true → AllByRecursion RowFits made
rows_laid layout columns rows totals made fits is asked = subst (λ (t : List Row). AllByRecursion RowFits t) (sym is) (fits.of_rows asked)

pub same_columns : (rows made : List Row) → made ≡ rows → ColumnsFit rows → ColumnsFit made
same_columns rows made is fits = subst ColumnsFit (sym is) fits

pub same_sums : (columns : ℕ) (rows made : List Row) (sums : List Sums) → made ≡ rows → sums ≡ column_sums columns made → sums ≡ column_sums columns rows
same_sums columns rows made sums is summed = summed ∙ ap (column_sums columns) is
