-- Rows without sums aren't laid out, and what is laid out is the text.
use Rattle.std.proofs.Common.{◌≡◌, ℕ, Bool, true, false, cond, List, [], ◌∷◌, ◌++◌, length, zero, suc, None, Result, refl, sym, ap, subst, ◌∙◌, ◌-◌, arith}
use Rattle.std.specs.List.{AllByRecursion, list_any}
use Rattle.std.proofs.lemmas.Bool.{false≢true, or_parts}
use Rattle.hl_num.proofs.RoundingLemmas.{pow_ten_positive}
use Rattle.hl_time.specs.declared.spans.Span.{Span}
use Rattle.book.specs.declared.style.Style.{Style}
use Rattle.balance_layouts.specs.Balance.{CellsFit}
use Rattle.balance_layouts.specs.Lists.{balance_list}
use Rattle.balance_layouts.specs.Tables.{balance_table}
use Rattle.balance_layouts.specs.Totals.{TotalsFit, first_out}
use Rattle.balance_rows.specs.Fitting.{Fit, RowFits, column_entries}
use Rattle.balance_rows.specs.Layouts.{in_order, laid_rows}
use Rattle.balance_rows.specs.Rows.{Row, cell_at, has_sums, is_shown, shown_rows}
use Rattle.balance_rows.specs.Sums.{entries_of}
use Rattle.report_cells.specs.Report.{Sums}
use Rattle.report_cells.specs.declared.fault.ReportFault.{ReportFault}
use Rattle.report_commands.specs.Answered.{laid_balance}
use Rattle.report_commands.specs.Layouts.{is_table, layout_of}
use Rattle.report_options.specs.declared.options.Options.{Options}
use Rattle.report_sums.specs.Celled.{Celled, unless}

-- ---- rows without sums

empty_is : (sums : Sums) → has_sums sums ≡ false → sums ≡ []
empty_is [] h = refl
empty_is (sum ∷ sums) h = absurd (false≢true (sym h))

empty_cell : (at : ℕ) (cells : List Sums) → list_any has_sums cells ≡ false → cell_at at cells ≡ []
empty_cell at [] h = refl
empty_cell zero (cell ∷ cells) h = empty_is cell (or_parts (has_sums cell) (list_any has_sums cells) h).0
empty_cell (suc at) (cell ∷ cells) h = empty_cell at cells (or_parts (has_sums cell) (list_any has_sums cells) h).1

empty_entries : (cells : List Sums) → list_any has_sums cells ≡ false → entries_of cells ≡ []
empty_entries [] h = refl
empty_entries (cell ∷ cells) h =
    let parts = or_parts (has_sums cell) (list_any has_sums cells) h in
    λ i. empty_is cell parts.0 i ++ empty_entries cells parts.1 i

-- they add nothing to a column
column_shown : (at : ℕ) (rows : List Row) → column_entries at rows ≡ column_entries at (shown_rows false rows)
column_shown at [] = refl
column_shown at (row ∷ rows) =
    elim (is_shown row) as (λ b. is_shown row ≡ b → cell_at at row.1 ++ column_entries at rows ≡ column_entries at (cond b (row ∷ shown_rows false rows) (shown_rows false rows))) [
      | true ↦ λ e. ap (λ (rest : Sums). cell_at at row.1 ++ rest) (column_shown at rows)
      | false ↦ λ e. ap (λ (own : Sums). own ++ column_entries at rows) (empty_cell at row.1 e) ∙ column_shown at rows
    ] refl

nothing_fits : Fit []
nothing_fits symbol = record { places = 36; few = omega arith; whole = tt; small = omega (arith, pow_ten_positive (36 - 36)) }

to_shown : (rows : List Row) → AllByRecursion RowFits rows → AllByRecursion RowFits (shown_rows false rows)
to_shown [] h = tt
to_shown (row ∷ rows) h =
    elim (is_shown row) as (λ b. AllByRecursion RowFits (cond b (row ∷ shown_rows false rows) (shown_rows false rows))) [
      | true ↦ (h.0, to_shown rows h.1)
      | false ↦ to_shown rows h.1
    ]

from_shown : (rows : List Row) → AllByRecursion RowFits (shown_rows false rows) → AllByRecursion RowFits rows
from_shown [] h = tt
from_shown (row ∷ rows) h = by (from_shown rows) (is_shown row) refl h
  where
    by : (AllByRecursion RowFits (shown_rows false rows) → AllByRecursion RowFits rows) → (b : Bool) → is_shown row ≡ b → AllByRecursion RowFits (cond b (row ∷ shown_rows false rows) (shown_rows false rows)) → RowFits row × AllByRecursion RowFits rows
    by rest true e all = (all.0, rest all.1)
    by rest false e all = (subst Fit (sym (empty_entries row.1 e)) nothing_fits, rest all)

-- ---- the layout of a report that shows no rows without sums

module _ (options : Options) (shown : options.empty ≡ false) where
  laid_by : (n : ℕ) (rows : List Row) → laid_rows (layout_of options) n rows ≡ in_order (layout_of options).order (layout_of options).basis n (shown_rows false rows)
  laid_by n rows = ap (λ (empty : Bool). in_order (layout_of options).order (layout_of options).basis n (shown_rows empty rows)) shown

  laid_same : (n k : ℕ) (rows others : List Row) → n ≡ k → shown_rows false rows ≡ shown_rows false others → laid_rows (layout_of options) n rows ≡ laid_rows (layout_of options) k others
  laid_same n k rows others is same =
      laid_by n rows ∙ (λ i. in_order (layout_of options).order (layout_of options).basis (is i) (same i)) ∙ sym (laid_by k others)

  -- what is laid out as a table or as a list
  abbrev laid_as : Bool → (List ℕ → Style) → ℕ → List Span → List Row → List Sums → Result (List ℕ) ReportFault
  laid_as table style n columns laid totals =
      unless (cond table (first_out (layout_of options) n style laid totals) None)
      (cond table (balance_table (layout_of options) style columns laid totals) (balance_list (layout_of options) style laid totals))

  module _ (style : List ℕ → Style) (columns others : List Span) (cells whole : Celled) (count : length columns ≡ length others) (same : is_table options ≡ true → columns ≡ others)
      (rows : shown_rows false cells.rows ≡ shown_rows false whole.rows) (totals : cells.totals ≡ whole.totals) where
    laid : laid_rows (layout_of options) (length columns) cells.rows ≡ laid_rows (layout_of options) (length others) whole.rows
    laid = laid_same (length columns) (length others) cells.rows whole.rows count rows

    by_table : (b : Bool) → is_table options ≡ b
        → laid_as (is_table options) style (length columns) columns (laid_rows (layout_of options) (length columns) cells.rows) cells.totals
        ≡ laid_as (is_table options) style (length others) others (laid_rows (layout_of options) (length others) whole.rows) whole.totals
    by_table true e = λ i. laid_as (is_table options) style (count i) (same e i) (laid i) (totals i)
    by_table false e =
        ap (λ (b : Bool). laid_as b style (length columns) columns (laid_rows (layout_of options) (length columns) cells.rows) cells.totals) e
        ∙ (λ i. laid_as false style (count i) others (laid i) (totals i))
        ∙ sym (ap (λ (b : Bool). laid_as b style (length others) others (laid_rows (layout_of options) (length others) whole.rows) whole.totals) e)

    -- the text is the same
    pub text_same : laid_balance (layout_of options) style columns cells ≡ laid_balance (layout_of options) style others whole
    text_same = by_table (is_table options) refl

    -- and what is shown fits where the whole does
    pub shown_fit : CellsFit (layout_of options) (length others) whole.rows whole.totals → CellsFit (layout_of options) (length columns) cells.rows cells.totals
    shown_fit fits = record {
      order_fits = record {
        tree = λ h at. subst Fit (sym (column_shown at cells.rows ∙ ap (λ (rs : List Row). column_entries at rs) rows ∙ sym (column_shown at whole.rows))) (fits.order_fits.tree h at);
        totals = λ amounts changes. from_shown cells.rows (subst (λ (rs : List Row). AllByRecursion RowFits rs) (sym rows) (to_shown whole.rows (fits.order_fits.totals amounts changes)));
      };
      totals_fit = λ table. subst (λ (p : List Row × List Sums). TotalsFit (layout_of options) p.0 p.1) (λ i. (sym laid i, sym totals i)) (fits.totals_fit table);
    }
