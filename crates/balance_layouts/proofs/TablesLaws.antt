-- A table shows values, whatever number of decimals they are kept with.
use Rattle.std.proofs.Common.{◌≡◌, ℕ, ℤ, pos, ◌-◌, ◌^◌, ◌*ℤ◌, Bool, true, false, cond, List, [], ◌∷◌, ◌++◌, map, length, codes, Option, Some, None, refl, sym, ap, ◌∙◌, arith}
use Rattle.std.specs.List.{flat_map}
use Rattle.std.proofs.lemmas.Int.{ints}
use Rattle.hl_num.specs.Decimal.{Decimal, units_of}
use Rattle.hl_time.specs.declared.spans.Span.{Span}
use Rattle.book.specs.Printed.{printed_units_of}
use Rattle.book.specs.declared.style.Style.{Style}
use Rattle.report_cells.specs.Report.{Sums, seen}
use Rattle.report_table.specs.Cells.{Cell, amount_text, cell_text, next_amount}
use Rattle.report_table.specs.Tables.{head_line, lines_text, row_line, table_text, total_lines}
use Rattle.report_table.specs.declared.lines.TableLine.{TableLine}
use Rattle.report_table.specs.declared.lines.TableLine.TheVariants as line
use Rattle.report_table.specs.declared.table.Section.{Section}
use Rattle.balance_rows.specs.declared.layout.Layout.{Layout}
use Rattle.balance_layouts.specs.Totals.{table_row, with_total}
use Rattle.balance_rows.specs.Rows.{Row}
use Rattle.balance_layouts.specs.TableRows.{IsSection, named_seen, seen_totals}
use Rattle.balance_layouts.specs.Tables.{balance_table, exact, exact_cell, exact_row}
use Rattle.balance_layouts.specs.Titles.{heads_of, title_of}

by_one : (z : ℤ) → z *ℤ pos (10 ^ (36 - 36)) ≡ z
by_one z = omega (arith, ints)

map-twice : {A B C : Type 0} (g : B → C) (f : A → B) (xs : List A) → map g (map f xs) ≡ map (λ x. g (f x)) xs
map-twice g f [] = refl
map-twice g f (x ∷ xs) = λ i. g (f x) ∷ map-twice g f xs i

module _ (style : List ℕ → Style) where
  same_amount : (sum : List ℕ × Decimal) → amount_text style sum ≡ amount_text style (exact (sum.0, units_of sum.1))
  same_amount sum = ap (λ (z : ℤ). printed_units_of sum.0 z (style sum.0)) (sym (by_one (units_of sum.1)))

  same_amounts : (sums : Cell) → flat_map (next_amount style) sums ≡ flat_map (next_amount style) (exact_cell (seen sums))
  same_amounts [] = refl
  same_amounts (sum ∷ sums) = λ i. (codes ", " ++ same_amount sum i) ++ same_amounts sums i

  same_cell : (cell : Cell) → cell_text style cell ≡ cell_text style (exact_cell (seen cell))
  same_cell [] = refl
  same_cell (sum ∷ sums) = λ i. same_amount sum i ++ same_amounts sums i

  same_cells : (cells : List Cell) → map (cell_text style) cells ≡ map (cell_text style) (map exact_cell (map seen cells))
  same_cells [] = refl
  same_cells (cell ∷ cells) = λ i. same_cell cell i ∷ same_cells cells i

  same_rows : (made : List (List ℕ × List Cell)) → map (row_line style) made ≡ map (row_line style) (map exact_row (map named_seen made))
  same_rows [] = refl
  same_rows (row ∷ made) = λ i. line.Row row.0 (same_cells row.1 i) ∷ same_rows made i

  -- the totals that are told exactly
  abbrev exact_totals : Option (List Sums) → Option (List Cell)
  exact_totals None = None
  exact_totals (Some cells) = Some (map exact_cell cells)

  same_totals : (totals : Option (List Cell)) → total_lines style totals ≡ total_lines style (exact_totals (seen_totals totals))
  same_totals None = refl
  same_totals (Some cells) = λ i. line.Rule 45 ∷ line.Row [] (same_cells cells i) ∷ []

  exact-if : (b : Bool) (cells : List Sums) → exact_totals (cond b None (Some cells)) ≡ cond b None (Some (map exact_cell cells))
  exact-if true cells = refl
  exact-if false cells = refl

  -- the text of a table of one section without a name
  written : List ℕ → List (List ℕ) → List TableLine → List TableLine → List ℕ
  written title heads rows totals =
      title ++ (10 ∷ 10 ∷ []) ++ lines_text (length heads) ((head_line heads ∷ ((line.Rule 61 ∷ ([] ++ rows ++ totals)) ++ [])) ++ [])

  written-is : (title : List ℕ) (heads : List (List ℕ)) (made : List (List ℕ × List Cell)) (totals : Option (List Cell))
      → table_text style (record { title = title; heads = heads; sections = (record { name = None; rows = made; totals = totals }) ∷ []; last = None })
      ≡ written title heads (map (row_line style) made) (total_lines style totals)
  unfolding written
  written-is title heads made totals = refl

  -- A table that says what the definition's does is written alike.
  laid : (layout : Layout) (columns : List Span) (rows : List Row) (totals : List Sums)
      (title : List ℕ) (heads : List (List ℕ)) (made : List (List ℕ × List Cell)) (shown : Option (List Cell))
      → title ≡ title_of layout.basis columns → heads ≡ heads_of layout columns
      → map named_seen made ≡ map (table_row layout (length columns) style) rows
      → seen_totals shown ≡ cond layout.no_total None (Some (with_total layout (length columns) style totals))
      → table_text style (record { title = title; heads = heads; sections = (record { name = None; rows = made; totals = shown }) ∷ []; last = None })
      ≡ balance_table layout style columns rows totals
  laid layout columns rows totals title heads made shown titled headed rowed totalled =
      let more = with_total layout (length columns) style totals in
      let row_lines : map (row_line style) made ≡ map (row_line style) (map (λ (row : Row). exact_row (table_row layout (length columns) style row)) rows) =
      same_rows made ∙ ap (λ (made : List Row). map (row_line style) (map exact_row made)) rowed
      ∙ ap (map (row_line style)) (map-twice exact_row (table_row layout (length columns) style) rows) in
      let totals_lines : total_lines style shown ≡ total_lines style (cond layout.no_total None (Some (map exact_cell more))) =
      same_totals shown ∙ ap (λ (t : Option (List Sums)). total_lines style (exact_totals t)) totalled ∙ ap (total_lines style) (exact-if layout.no_total more) in
      written-is title heads made shown
      ∙ (λ i. written (titled i) (headed i) (row_lines i) (totals_lines i))
      ∙ sym (written-is (title_of layout.basis columns) (heads_of layout columns) (map (λ (row : Row). exact_row (table_row layout (length columns) style row)) rows) (cond layout.no_total None (Some (map exact_cell more))))

  -- The same of a section that is made.
  pub laid_section : (layout : Layout) (columns : List Span) (rows : List Row) (totals : List Sums)
      (title : List ℕ) (heads : List (List ℕ)) (section : Section)
      → title ≡ title_of layout.basis columns → heads ≡ heads_of layout columns
      → IsSection layout (length columns) style rows totals section
      → table_text style (record { title = title; heads = heads; sections = section ∷ []; last = None })
      ≡ balance_table layout style columns rows totals
  laid_section layout columns rows totals title heads section titled headed made =
      (λ i. table_text style (record { title = title; heads = heads; sections = (record { name = made.unnamed i; rows = section.rows; totals = section.totals }) ∷ []; last = None }))
      ∙ laid layout columns rows totals title heads section.rows section.totals titled headed made.of_rows made.of_totals
