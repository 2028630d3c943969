-- The rows of two sections are parts of all rows.
use Rattle.std.proofs.Common.{◌≡◌, ℕ, ◌+◌, Bool, true, false, cond, List, [], ◌∷◌, ◌++◌, map, filter, Option, Some, None, append_assoc, refl, sym, ap, subst, ◌∙◌, eqb-true, ne_eqb, arith}
use Rattle.std.specs.List.{AllByRecursion}
use Rattle.std.proofs.lemmas.Bool.{false≢true}
use Rattle.std.proofs.lemmas.Bool.Decides.{nat_tests}
use Rattle.query.specs.Types.{letter_of}
use Rattle.report_cells.specs.Report.{Sums}
use Rattle.balance_rows.specs.declared.layout.Layout.{Layout}
use Rattle.balance_rows.specs.Fitting.{ColumnsFit, Fit, RowFits, column_entries}
use Rattle.balance_rows.specs.Rows.{Row, cell_at}
use Rattle.balance_rows.specs.Sums.{entries_of}
use Rattle.statements.specs.declared.statement.Part.{Part}
use Rattle.statements.specs.declared.statement.Statement.{Statement}
use Rattle.statements.specs.declared.statement.Statement.TheVariants.{Income, Sheet}
use Rattle.statements.specs.Chosen.{is_in, part_rows}
use Rattle.statements.specs.Described.{first_of, has_account, has_letter, is_turned, second_of}
use Rattle.statements.specs.Fits.{CellsFit, PartsFit}
use Rattle.balance_layouts.specs.Totals.{cells_of}
use Rattle.statements.specs.Turned.{row_shown}
use Rattle.balance_rows.proofs.Fits.{IsPart, fit_part, part-none}
use Rattle.balance_rows.proofs.TreesLaws.{part-join}
use Rattle.balance_layouts.proofs.Parts.{part-skip, part-swap, part-then}
use Rattle.statements.proofs.Signs.{part-cell_shown, part-row_shown}

-- ---- rows that pass one of two tests

module _ (f : Row → Sums) (shown : (turn : Bool) (row : Row) → IsPart (f (row_shown turn row)) (f row)) where
  abbrev gathered : List Row → Sums
  gathered rows = entries_of (map f rows)

  module _ (p q : Row → Bool) (a b : Bool) (apart : (row : Row) → p row ≡ true → q row ≡ false) where
    abbrev firsts : List Row → Sums
    firsts rows = gathered (map (row_shown a) (filter p rows))

    abbrev seconds : List Row → Sums
    seconds rows = gathered (map (row_shown b) (filter q rows))

    -- a row of the first kind
    one_first : (row : Row) (rows : List Row) → IsPart (firsts rows ++ seconds rows) (gathered rows)
        → IsPart ((f (row_shown a row) ++ firsts rows) ++ seconds rows) (f row ++ gathered rows)
    one_first row rows h =
        subst (λ (t : Sums). IsPart t (f row ++ gathered rows)) (sym (append_assoc (f (row_shown a row)) (firsts rows) (seconds rows)))
        (part-join (f (row_shown a row)) (firsts rows ++ seconds rows) (f row) (gathered rows) (shown a row) h)

    -- one of the second kind
    one_second : (row : Row) (rows : List Row) → IsPart (firsts rows ++ seconds rows) (gathered rows)
        → IsPart (firsts rows ++ (f (row_shown b row) ++ seconds rows)) (f row ++ gathered rows)
    one_second row rows h =
        part-then (firsts rows ++ (f (row_shown b row) ++ seconds rows)) (f (row_shown b row) ++ (firsts rows ++ seconds rows)) (f row ++ gathered rows)
        (part-swap (firsts rows) (f (row_shown b row)) (seconds rows))
        (part-join (f (row_shown b row)) (firsts rows ++ seconds rows) (f row) (gathered rows) (shown b row) h)

    abbrev both_of : Row → List Row → Bool → Bool → Sums
    both_of row rows x y =
        gathered (map (row_shown a) (cond x (row ∷ filter p rows) (filter p rows)))
        ++ gathered (map (row_shown b) (cond y (row ∷ filter q rows) (filter q rows)))

    parted : (rows : List Row) → IsPart (firsts rows ++ seconds rows) (gathered rows)
    parted [] = part-none []
    parted (row ∷ rows) =
        elim (p row) as (λ x. p row ≡ x → IsPart (both_of row rows x (q row)) (f row ++ gathered rows)) [
          | true ↦ λ e. subst (λ (y : Bool). IsPart (both_of row rows true y) (f row ++ gathered rows)) (sym (apart row e)) (one_first row rows (parted rows))
          | false ↦ λ e. elim (q row) as (λ y. IsPart (both_of row rows false y) (f row ++ gathered rows)) [
            | true ↦ one_second row rows (parted rows)
            | false ↦ part-skip (firsts rows ++ seconds rows) (f row) (gathered rows) (parted rows)
          ]
        ] refl

-- ---- no account is in both sections of a statement

letters_apart : (statement : Statement) (letter : ℕ) → has_letter (first_of statement) letter ≡ true → has_letter (second_of statement) letter ≡ false
letters_apart Income letter h = grind (arith, nat_tests)
letters_apart Sheet letter h = grind (arith, nat_tests)

accounts_apart : (statement : Statement) (letter : Option ℕ) → has_account (first_of statement) letter ≡ true → has_account (second_of statement) letter ≡ false
accounts_apart statement None h = refl
accounts_apart statement (Some letter) h = letters_apart statement letter h

-- ---- the cells of both sections

fit_shown : (turn : Bool) (row : Row) → RowFits row → RowFits (row_shown turn row)
fit_shown turn row fit = fit_part (entries_of (row_shown turn row).1) (entries_of row.1) (part-row_shown turn row) fit

fit_rows : (turn : Bool) (p : Row → Bool) (rows : List Row) → AllByRecursion RowFits rows → AllByRecursion RowFits (map (row_shown turn) (filter p rows))
fit_rows turn p [] h = tt
fit_rows turn p (row ∷ rows) h = elim (p row) as (λ x. AllByRecursion RowFits (map (row_shown turn) (cond x (row ∷ filter p rows) (filter p rows)))) [
  | true ↦ (fit_shown turn row h.0, fit_rows turn p rows h.1)
  | false ↦ fit_rows turn p rows h.1
]

module _ (own : List ℕ → Option ℕ) (statement : Statement) (layout : Layout) (rows : List Row) where
  abbrev first : Part
  first = first_of statement

  abbrev second : Part
  second = second_of statement

  apart : (row : Row) → is_in own first row ≡ true → is_in own second row ≡ false
  apart row h = accounts_apart statement (letter_of own row.0) h

  pub parts_fit : CellsFit layout rows → PartsFit layout (part_rows own first rows) (part_rows own second rows)
  parts_fit fits = record {
    columns = λ at.
        fit_part (column_entries at (part_rows own first rows) ++ column_entries at (part_rows own second rows)) (column_entries at rows)
        (parted (λ (row : Row). cell_at at row.1) (part-cell_shown at) (is_in own first) (is_in own second) (is_turned first) (is_turned second) apart rows)
        (fits.columns at);
    first_ranks = λ amounts changes. fit_rows (is_turned first) (is_in own first) rows (fits.ranks amounts changes);
    second_ranks = λ amounts changes. fit_rows (is_turned second) (is_in own second) rows (fits.ranks amounts changes);
    totals = λ asked.
        fit_part (cells_of (part_rows own first rows) ++ cells_of (part_rows own second rows)) (cells_of rows)
        (parted (λ (row : Row). entries_of row.1) part-row_shown (is_in own first) (is_in own second) (is_turned first) (is_turned second) apart rows)
        (fits.totals asked);
  }
