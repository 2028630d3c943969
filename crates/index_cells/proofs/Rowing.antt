-- Rows are made cell by cell, and put one behind another.
use Rattle.std.proofs.Common.{◌≡◌, ℕ, ℤ, ◌+◌, ◌<◌, List, [], ◌∷◌, ◌++◌, length, take, get_or, sym, ap, subst, ◌∙◌}
use Rattle.std.proofs.lemmas.List.{take_more}
use Rattle.hl_time.specs.declared.spans.Span.{Span}
use Rattle.report_cells.specs.Kept.{Cell}
use Rattle.report_cells.specs.declared.cells.CellRow.{CellRow}
use Rattle.index_cells.specs.Held.{HoldsSums, HoldsRow, HoldsRows, most_of, summed_in}
use Rattle.index_cells.specs.declared.kept.Kept.{Kept}
use Rattle.index_cells.specs.declared.rows.Plan.{Plan}

module _ (exact : Span → List ℕ → ℤ) (most : List ℕ → ℕ) where
  row-push : (cells : List Cell) (columns : List Span) (cell : Cell) (column : Span) → HoldsRow exact most cells columns → HoldsSums cell (exact column) most → HoldsRow exact most (cells ++ cell ∷ []) (columns ++ column ∷ [])
  row-push [] [] cell column h new = (new, tt)
  row-push [] (c ∷ columns) cell column h new = absurd h
  row-push (x ∷ cells) [] cell column h new = absurd h
  row-push (x ∷ cells) (c ∷ columns) cell column h new = (h.0, row-push cells columns cell column h.1 new)

  -- one more column
  pub row_at : (cells more : List Cell) (columns : List Span) (i : ℕ) (cell : Cell) (other : Span) → i < length columns → HoldsRow exact most cells (take i columns) → HoldsSums cell (exact (get_or columns i other)) most → more ≡ cells ++ cell ∷ [] → HoldsRow exact most more (take (i + 1) columns)
  row_at cells more columns i cell other lt h new is =
      subst (λ (cs : List Cell). HoldsRow exact most cs (take (i + 1) columns)) (sym is)
      (subst (λ (ks : List Span). HoldsRow exact most (cells ++ cell ∷ []) ks) (sym (take_more columns i other lt)) (row-push cells (take i columns) cell (get_or columns i other) h new))

module _ (exact : List ℕ → Span → List ℕ → ℤ) (most : List ℕ → ℕ) (columns : List Span) where
  rows-push : (rows : List CellRow) (accounts : List (List ℕ)) (row : CellRow) (account : List ℕ) → HoldsRows exact most columns rows accounts → row.account ≡ account → HoldsRow (exact account) most row.cells columns → HoldsRows exact most columns (rows ++ row ∷ []) (accounts ++ account ∷ [])
  rows-push [] [] row account h named cells = (named, (cells, tt))
  rows-push [] (a ∷ accounts) row account h named cells = absurd h
  rows-push (r ∷ rows) [] row account h named cells = absurd h
  rows-push (r ∷ rows) (a ∷ accounts) row account h named cells = (h.0, (h.1.0, rows-push rows accounts row account h.1.1 named cells))

-- one more account
pub rows_more : (kept : Kept) (plan : Plan) (old new : List CellRow) (row : CellRow) (account : List ℕ) (i : ℕ) → i < length kept.accounts → account ≡ get_or kept.accounts i account
    → row.account ≡ account → HoldsRow (summed_in kept plan.reach plan.days account) (most_of kept) row.cells plan.columns.now → new ≡ old ++ row ∷ []
    → HoldsRows (summed_in kept plan.reach plan.days) (most_of kept) plan.columns.now old (take i kept.accounts)
    → HoldsRows (summed_in kept plan.reach plan.days) (most_of kept) plan.columns.now new (take (i + 1) kept.accounts)
rows_more kept plan old new row account i lt read named cells is rows =
    let exact = summed_in kept plan.reach plan.days in
    let done : take (i + 1) kept.accounts ≡ take i kept.accounts ++ account ∷ [] = take_more kept.accounts i account lt ∙ ap (λ x. take i kept.accounts ++ x ∷ []) (sym read) in
    subst (λ (rs : List CellRow). HoldsRows exact (most_of kept) plan.columns.now rs (take (i + 1) kept.accounts)) (sym is)
    (subst (λ (names : List (List ℕ)). HoldsRows exact (most_of kept) plan.columns.now (old ++ row ∷ []) names) (sym done)
    (rows-push exact (most_of kept) plan.columns.now old (take i kept.accounts) row account rows named cells))
