-- Lines and the least symbol that can't be told, one line after another.
use Rattle.std.proofs.Common.{◌≡◌, ℕ, ◌+◌, List, [], ◌∷◌, ◌++◌, map, Option, None, append_assoc, append-nil, sym, ap, ◌∙◌, arith}
use Rattle.std.specs.List.{flat_map, range_with_len}
use Rattle.std.proofs.lemmas.List.{map-append}
use Rattle.std.proofs.lemmas.List.Concat.{flat_map-append}
use Rattle.std.proofs.lemmas.List.FromFn.{map-range_with_len_more}
use Rattle.std.proofs.lemmas.List.Sums.{fold-append}
use Rattle.book.specs.declared.style.Style.{Style}
use Rattle.report_cells.specs.Report.{Sums, row_seen}
use Rattle.report_cells.specs.declared.cells.CellRow.{CellRow}
use Rattle.report_table.specs.declared.lines.TableLine.{TableLine}
use Rattle.balance_rows.specs.declared.layout.Layout.{Layout}
use Rattle.balance_rows.specs.Rows.{Row, cell_at}
use Rattle.balance_rows.proofs.RowsLaws.{range-push}
use Rattle.balance_layouts.specs.Averages.{least, least_with, lesser}
use Rattle.budget_layout.specs.Beside.{budget_cell}
use Rattle.budget_layout.specs.Lined.{lines_by, outs_by}
use Rattle.budget_layout.specs.Percents.{percent_out}
use Rattle.budget_layout.specs.Written.{budget_line, line_out}

-- of some symbols and then of others
pub least_then : (old one two : Option (List ℕ)) (xs ys : List (List ℕ)) → one ≡ least_with old xs → two ≡ least_with one ys
    → two ≡ least_with old (xs ++ ys)
least_then old one two xs ys first second =
    second ∙ ap (λ (t : Option (List ℕ)). least_with t ys) first ∙ sym (fold-append lesser old xs ys)

-- of five lists, one after another
pub least_of : (a b c d e : List (List ℕ)) → least_with (least_with (least_with None a) b) (c ++ d ++ e) ≡ least (a ++ b ++ c ++ d ++ e)
least_of a b c d e =
    ap (λ (t : Option (List ℕ)). least_with t (c ++ d ++ e)) (sym (fold-append lesser None a b))
    ∙ sym (fold-append lesser None (a ++ b) (c ++ d ++ e))
    ∙ ap least (sym (append_assoc (a ++ b) (c ++ d) e) ∙ ap (λ (t : List (List ℕ)). t ++ e) (sym (append_assoc (a ++ b) c d)))

-- three appends
pub thrice : (old one two three a b c : List TableLine) → one ≡ old ++ a → two ≡ one ++ b → three ≡ two ++ c → three ≡ old ++ (a ++ b ++ c)
thrice old one two three a b c first second third =
    third ∙ ap (λ (t : List TableLine). t ++ c) (second ∙ ap (λ (t : List TableLine). t ++ b) first ∙ append_assoc old a b) ∙ append_assoc old (a ++ b) c

-- ---- the cells of a row

module _ (style : List ℕ → Style) (actual goals : List Sums) where
  abbrev pub text_at : ℕ → List ℕ
  text_at at = budget_cell style (cell_at at actual) (cell_at at goals)

  abbrev pub out_at : ℕ → List (List ℕ)
  out_at at = percent_out (cell_at at actual) (cell_at at goals)

  pub texts_more : (at : ℕ) (now new : List (List ℕ)) (cell : Sums) (text : List ℕ) → cell ≡ cell_at at actual
      → now ≡ map text_at (range_with_len 0 at) → text ≡ budget_cell style cell (cell_at at goals) → new ≡ now ++ text ∷ []
      → new ≡ map text_at (range_with_len 0 (at + 1))
  texts_more at now new cell text is was made pushed =
      pushed
      ∙ (λ i. was i ++ (made ∙ ap (λ (c : Sums). budget_cell style c (cell_at at goals)) is) i ∷ [])
      ∙ sym (map-range_with_len_more text_at 0 at at (omega arith))

  outs-push : (at : ℕ) → flat_map out_at (range_with_len 0 (at + 1)) ≡ flat_map out_at (range_with_len 0 at) ++ out_at at
  outs-push at =
      let e : 0 + at ≡ at = omega arith in
      ap (flat_map out_at) (range-push 0 at ∙ ap (λ (k : ℕ). range_with_len 0 at ++ k ∷ []) e)
      ∙ flat_map-append out_at (range_with_len 0 at) (at ∷ [])
      ∙ ap (λ (t : List (List ℕ)). flat_map out_at (range_with_len 0 at) ++ t) (append-nil (out_at at))

  pub outs_more : (at : ℕ) (old now new : Option (List ℕ)) (cell : Sums) → cell ≡ cell_at at actual
      → now ≡ least_with old (flat_map out_at (range_with_len 0 at)) → new ≡ least_with now (percent_out cell (cell_at at goals))
      → new ≡ least_with old (flat_map out_at (range_with_len 0 (at + 1)))
  outs_more at old now new cell is was made =
      least_then old now new (flat_map out_at (range_with_len 0 at)) (out_at at) was
      (made ∙ ap (λ (c : Sums). least_with now (percent_out c (cell_at at goals))) is)
      ∙ ap (least_with old) (sym (outs-push at))

-- ---- the lines of rows

module _ (layout : Layout) (columns : ℕ) (style : List ℕ → Style) (goals : List ℕ → List Sums) where
  pub lines_more : (old now new : List TableLine) (rows : List CellRow) (row : CellRow)
      → now ≡ old ++ lines_by layout columns style goals (map row_seen rows)
      → new ≡ now ++ budget_line layout columns style (row_seen row) (goals row.account) ∷ []
      → new ≡ old ++ lines_by layout columns style goals (map row_seen (rows ++ row ∷ []))
  lines_more old now new rows row was pushed =
      pushed ∙ ap (λ (t : List TableLine). t ++ budget_line layout columns style (row_seen row) (goals row.account) ∷ []) was
      ∙ append_assoc old (lines_by layout columns style goals (map row_seen rows)) (budget_line layout columns style (row_seen row) (goals row.account) ∷ [])
      ∙ ap (λ (t : List TableLine). old ++ t)
      (sym (ap (lines_by layout columns style goals) (map-append row_seen rows (row ∷ []))
      ∙ map-append (λ (r : Row). budget_line layout columns style r (goals r.0)) (map row_seen rows) (row_seen row ∷ [])))

  pub least_more : (old now new : Option (List ℕ)) (rows : List CellRow) (row : CellRow)
      → now ≡ least_with old (outs_by layout columns style goals (map row_seen rows))
      → new ≡ least_with now (line_out layout columns style (row_seen row) (goals row.account))
      → new ≡ least_with old (outs_by layout columns style goals (map row_seen (rows ++ row ∷ [])))
  least_more old now new rows row was made =
      least_then old now new (outs_by layout columns style goals (map row_seen rows)) (line_out layout columns style (row_seen row) (goals row.account)) was made
      ∙ ap (least_with old)
      (sym (ap (outs_by layout columns style goals) (map-append row_seen rows (row ∷ []))
      ∙ flat_map-append (λ (r : Row). line_out layout columns style r (goals r.0)) (map row_seen rows) (row_seen row ∷ [])
      ∙ ap (λ (t : List (List ℕ)). outs_by layout columns style goals (map row_seen rows) ++ t)
      (append-nil (line_out layout columns style (row_seen row) (goals row.account)))))
