-- Cells that are made of what was gathered.
use Rattle.std.proofs.Common.{◌≡◌, ℕ, ◌+◌, ◌<◌, List, [], ◌∷◌, ◌++◌, length, map, take, get_or, None, Result, Ok, Err, IfOk, OnOk, IfErr, sym, ap, subst, ◌∙◌}
use Rattle.std.specs.List.{AllByRecursion}
use Rattle.std.proofs.lemmas.List.{take_more}
use Rattle.hl_num.specs.Decimal.{Decimal}
use Rattle.hl_time.specs.declared.spans.Span.{Span}
use Rattle.report_cells.specs.Taken.{Taken}
use Rattle.report_cells.specs.Bounds.{first_out, places_in}
use Rattle.report_cells.specs.Faults.{IsFault}
use Rattle.report_cells.specs.Follows.{Follow}
use Rattle.report_cells.specs.Gathered.{Gathered, Gathers, IsBegun, Adds}
use Rattle.report_cells.specs.Kept.{FinishFits, finished_row, column_of, column_totals, EachFits}
use Rattle.report_cells.specs.Made.{AreSumsOf, Makes, IsFull}
use Rattle.report_cells.specs.Report.{row_seen, rows_in, seen, totals_in}
use Rattle.report_cells.specs.Turned.{Turnovers, first_full}
use Rattle.report_cells.specs.declared.cells.CellRow.{CellRow}
use Rattle.report_cells.specs.declared.cells.Cells.{Cells}
use Rattle.report_cells.specs.declared.fault.ReportFault.{ReportFault}
use Rattle.report_cells.specs.declared.fault.ReportFault.TheVariants.{Range, TooWide, Memory}
use Rattle.report_cells.specs.declared.reach.Reach.{Reach}
use Rattle.report_cells.proofs.Ending.{rows_finish, rows_are}
use Rattle.report_cells.proofs.Held.{Held, held_of, all_fit, all_held}
use Rattle.report_cells.proofs.Sizes.{Sized, first-is}
use Rattle.report_cells.proofs.Totalling.{columns_fit, totals_are}

-- ---- what was gathered can be finished

module _ (columns : List Span) (reach : Reach) (ts : List Taken) (g : Gathered) (begun : Gathers columns reach ts g) (none : first_full g.turnovers ≡ None) where
  held : Held columns reach ts g
  held = held_of columns reach ts g begun

  shown_is : map (finished_row g.reach) g.rows ≡ map (finished_row reach) g.rows
  shown_is = ap (λ (r : Reach). map (finished_row r) g.rows) held.by_reach

  wide : length g.columns ≡ length columns
  wide = ap length held.by_columns

  rows_end : AllByRecursion (λ (row : List ℕ × List (List (List ℕ × Decimal))). FinishFits g.reach row.1) g.rows
  rows_end =
      subst (λ (r : Reach). AllByRecursion (λ (row : List ℕ × List (List (List ℕ × Decimal))). FinishFits r row.1) g.rows) (sym held.by_reach)
      (rows_finish reach columns begun.follow ts (λ q. places_in q ts) (all_fit columns reach ts g held none) g.rows (all_held columns reach ts g held none))

  columns_end : (at : ℕ) → at < length g.columns → EachFits [] (column_of at (map (finished_row g.reach) g.rows))
  columns_end at lt =
      subst (λ (rs : List CellRow). EachFits [] (column_of at rs)) (sym shown_is)
      (columns_fit reach columns begun.follow ts (λ q. places_in q ts) (all_fit columns reach ts g held none) g.rows (all_held columns reach ts g held none) at
      (subst (λ (n : ℕ). at < n) wide lt))

  -- and its rows and totals are those of its takings
  finished_are : (cells : Cells) → cells.columns ≡ g.columns → cells.rows ≡ map (finished_row g.reach) g.rows
      → cells.totals ≡ column_totals (length g.columns) (map (finished_row g.reach) g.rows) → AreSumsOf columns reach ts cells
  finished_are cells by_columns by_rows by_totals = record {
    by_columns = by_columns ∙ held.by_columns;
    rows = ap (map row_seen) (by_rows ∙ shown_is)
        ∙ rows_are reach columns begun.follow ts (λ q. places_in q ts) (all_fit columns reach ts g held none) g.rows (all_held columns reach ts g held none);
    totals = ap (map seen) (by_totals ∙ ap (λ (n : ℕ). column_totals n (map (finished_row g.reach) g.rows)) wide ∙ ap (column_totals (length columns)) shown_is)
        ∙ totals_are reach columns begun.follow ts (λ q. places_in q ts) (all_fit columns reach ts g held none) g.rows (all_held columns reach ts g held none);
    within = first-is g.turnovers ts held.sized ∙ none;
  }

  pub finished_told : (r : Result Cells ReportFault) → IfOk r (λ cells. cells.columns ≡ g.columns) → IfOk r (λ cells. cells.rows ≡ map (finished_row g.reach) g.rows)
      → IfOk r (λ cells. cells.totals ≡ column_totals (length g.columns) (map (finished_row g.reach) g.rows)) → IfErr r (λ fault. fault ≡ Memory) → Makes columns reach ts r
  finished_told (Ok cells) by_columns by_rows by_totals want = finished_are cells by_columns by_rows by_totals
  finished_told (Err fault) by_columns by_rows by_totals want = subst (IsFault ts) (sym want) tt

-- what is needed to begin
pub rows_needed : (g : Gathered) → IsBegun g → first_full g.turnovers ≡ None → AllByRecursion (λ (row : List ℕ × List (List (List ℕ × Decimal))). FinishFits g.reach row.1) g.rows
rows_needed g begun none = rows_end begun.0 begun.1 begun.2 g begun.3 none

pub columns_needed : (g : Gathered) → IsBegun g → first_full g.turnovers ≡ None → (at : ℕ) → at < length g.columns → EachFits [] (column_of at (map (finished_row g.reach) g.rows))
columns_needed g begun none = columns_end begun.0 begun.1 begun.2 g begun.3 none

-- ---- a symbol whose amounts are too large

full_told : (kept : Turnovers) (ts : List Taken) → Sized kept ts → (fault : ReportFault) → IsFull kept fault → IsFault ts fault
full_told kept ts h (Range symbol) full = first-is kept ts h ∙ full
full_told kept ts h (TooWide columns limit) full = full
full_told kept ts h Memory full = tt

pub refused_told : (columns : List Span) (reach : Reach) (ts : List Taken) (g : Gathered) → Gathers columns reach ts g → (fault : ReportFault) → IsFull g.turnovers fault → IsFault ts fault
refused_told columns reach ts g begun fault full = full_told g.turnovers ts (held_of columns reach ts g begun).sized fault full

-- ---- what is answered

module _ (columns : List Span) (reach : Reach) (ts : List Taken) where
  pub made_columns : (r : Result Cells ReportFault) → Makes columns reach ts r → IfOk r (λ cells. cells.columns ≡ columns)
  made_columns (Ok cells) made = made.by_columns
  made_columns (Err fault) made = tt

  pub made_rows : (r : Result Cells ReportFault) → Makes columns reach ts r → IfOk r (λ cells. map row_seen cells.rows ≡ rows_in reach columns ts)
  made_rows (Ok cells) made = made.rows
  made_rows (Err fault) made = tt

  pub made_totals : (r : Result Cells ReportFault) → Makes columns reach ts r → IfOk r (λ cells. map seen cells.totals ≡ totals_in reach columns ts)
  made_totals (Ok cells) made = made.totals
  made_totals (Err fault) made = tt

  pub made_within : (r : Result Cells ReportFault) → Makes columns reach ts r → OnOk r (first_out ts ≡ None)
  made_within (Ok cells) made = made.within
  made_within (Err fault) made = tt

  pub made_fault : (r : Result Cells ReportFault) → Makes columns reach ts r → IfErr r (IsFault ts)
  made_fault (Ok cells) made = tt
  made_fault (Err fault) made = made

-- ---- a loop over takings

pub gathers_next : (columns : List Span) (reach : Reach) (ts : List Taken) (i : ℕ) (t : Taken) (g new : Gathered) → i < length ts → t ≡ get_or ts i t
    → Gathers columns reach (take i ts) g → Adds g (t ∷ []) new → Gathers columns reach (take (i + 1) ts) new
gathers_next columns reach ts i t g new within read begun adds =
    let done : take (i + 1) ts ≡ take i ts ++ t ∷ [] = take_more ts i t within ∙ ap (λ x. take i ts ++ x ∷ []) (sym read) in
    subst (λ (all : List Taken). Gathers columns reach all new) (sym done) (adds columns reach (take i ts) begun)
