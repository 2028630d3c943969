-- A budget from its parts.
use Rattle.std.proofs.Common.{◌≡◌, ℕ, ◌+◌, Bool, true, false, cond, List, [], ◌∷◌, ◌++◌, length, map, Option, Some, None, append_assoc, refl, sym, ap, ◌∙◌}
use Rattle.std.specs.Str.{bytes_eq}
use Rattle.std.proofs.lemmas.List.{get_or_at, length_push}
use Rattle.hl_base.specs.Ascii.{line_feed}
use Rattle.hl_time.specs.declared.spans.Span.{Span}
use Rattle.book.specs.declared.style.Style.{Style}
use Rattle.report_cells.specs.Report.{Sums, row_seen}
use Rattle.report_cells.specs.declared.cells.CellRow.{CellRow}
use Rattle.report_table.specs.Tables.{head_line, lines_text, thick}
use Rattle.report_table.specs.declared.lines.TableLine.{TableLine}
use Rattle.report_table.specs.declared.lines.TableLine.TheVariants as table_line
use Rattle.balance_rows.specs.declared.layout.Layout.{Layout}
use Rattle.balance_rows.specs.Rows.{Row}
use Rattle.balance_layouts.specs.Averages.{least, least_with}
use Rattle.balance_layouts.specs.Titles.{heads_of}
use Rattle.balance_layouts.specs.Totals.{rows_out, table_row, totals_out, with_total}
use Rattle.budget_layout.specs.Counted.{goal_rows, ordered, rest_rows}
use Rattle.budget_layout.specs.Grouped.{cells_at, names_of, place_from}
use Rattle.budget_layout.specs.Lined.{last_lines, last_out, lines_by, outs_by}
use Rattle.budget_layout.specs.Told.{Report}
use Rattle.budget_layout.specs.Written.{body_lines, budget_line, budget_text, cells_named, goals_of, line_out, outs, title_of, total_out, wide}
use Rattle.budget_layout.proofs.Lining.{least_of}

module _ (layout : Layout) (columns : ℕ) (style : List ℕ → Style) where
  -- ---- the goals of an account are those at its place

  abbrev rows_of : List CellRow → List Row
  rows_of goals = map (table_row layout columns style) (map row_seen goals)

  named_at : (name : List ℕ) (goals : List CellRow) (at : ℕ) (before : List Row) → length before ≡ at
      → cells_at (place_from at (names_of goals) name) (before ++ rows_of goals) ≡ cells_named name (wide layout columns style (map row_seen goals))
  named_at name [] at before many = refl
  named_at name (goal ∷ goals) at before many =
      let row : Row = table_row layout columns style (row_seen goal) in
      elim (bytes_eq name goal.account) as (λ b.
      cells_at (cond b (Some at) (place_from (at + 1) (names_of goals) name)) (before ++ row ∷ rows_of goals)
      ≡ cond b row.1 (cells_named name (wide layout columns style (map row_seen goals)))) [
        | true ↦ ap (λ (r : Row). r.1) (get_or_at before row (rows_of goals) ([], []) at many)
        | false ↦
            ap (cells_at (place_from (at + 1) (names_of goals) name)) (sym (append_assoc before (row ∷ []) (rows_of goals)))
            ∙ named_at name goals (at + 1) (before ++ row ∷ []) (length_push before row ∙ ap (λ (n : ℕ). n + 1) many)
      ]

  pub goals_are : (goals : List CellRow) (place : List ℕ → Option ℕ) (cells : List Row) → ((name : List ℕ) → place name ≡ place_from 0 (names_of goals) name)
      → cells ≡ rows_of goals → (name : List ℕ) → cells_at (place name) cells ≡ cells_named name (wide layout columns style (map row_seen goals))
  goals_are goals place cells placed is name = (λ i. cells_at (placed name i) (is i)) ∙ named_at name goals 0 [] refl

  -- ---- the lines below the heads

  module _ (actual goals : Report) where
    lines_by_flag : (b : Bool) → last_lines layout columns style actual.totals (cond b None (Some (with_total layout columns style goals.totals)))
        ≡ cond b [] (table_line.Rule 45 ∷ budget_line layout columns style ([], actual.totals) (with_total layout columns style goals.totals) ∷ [])
    lines_by_flag true = refl
    lines_by_flag false = refl

    out_by_flag : (b : Bool) → last_out layout columns style actual.totals (cond b None (Some (with_total layout columns style goals.totals)))
        ≡ cond b [] (line_out layout columns style ([], actual.totals) (with_total layout columns style goals.totals))
    out_by_flag true = refl
    out_by_flag false = refl

    module _ (of : List ℕ → List Sums) (rows rest : List Row) (totals : List Sums) (last : Option (List Sums))
        (of_is : (name : List ℕ) → of name ≡ goals_of layout columns style actual goals name)
        (rows_are : rows ≡ ordered layout.order layout.basis (goal_rows columns goals.rows actual.rows))
        (rest_are : rest ≡ rest_rows columns goals.rows actual.rows)
        (totals_are : totals ≡ actual.totals)
        (last_is : last ≡ cond layout.no_total None (Some (with_total layout columns style goals.totals))) where
      pub body_is : lines_by layout columns style of rows ++ lines_by layout columns style (λ account. []) rest ++ last_lines layout columns style totals last
          ≡ body_lines layout columns style actual goals
      body_is =
          (λ i. lines_by layout columns style (λ (name : List ℕ). of_is name i) (rows_are i)
          ++ lines_by layout columns style (λ account. []) (rest_are i)
          ++ (ap (λ (t : List Sums). last_lines layout columns style t last) totals_are
          ∙ ap (last_lines layout columns style actual.totals) last_is ∙ lines_by_flag layout.no_total) i)

      pub out_is : (two three : Option (List ℕ))
          → two ≡ least_with (least_with None (rows_out layout columns style goals.rows)) (totals_out layout columns style goals.totals)
          → three ≡ least_with two (outs_by layout columns style of rows ++ outs_by layout columns style (λ account. []) rest ++ last_out layout columns style totals last)
          → three ≡ least (outs layout columns style actual goals)
      out_is two three second third =
          third
          ∙ (λ i. least_with (second i)
          (outs_by layout columns style (λ (name : List ℕ). of_is name i) (rows_are i)
          ++ outs_by layout columns style (λ account. []) (rest_are i)
          ++ (ap (λ (t : List Sums). last_out layout columns style t last) totals_are
          ∙ ap (last_out layout columns style actual.totals) last_is ∙ out_by_flag layout.no_total) i))
          ∙ least_of (rows_out layout columns style goals.rows) (totals_out layout columns style goals.totals)
          (outs_by layout columns style (goals_of layout columns style actual goals) (ordered layout.order layout.basis (goal_rows columns goals.rows actual.rows)))
          (outs_by layout columns style (λ account. []) (rest_rows columns goals.rows actual.rows))
          (total_out layout columns style actual goals)

-- ---- the whole text

pub text_is : (layout : Layout) (style : List ℕ → Style) (columns lent : List Span) (actual goals : Report) (title : List ℕ) (heads : List (List ℕ)) (count n : ℕ)
    (top all : List TableLine) → lent ≡ columns → title ≡ title_of lent → heads ≡ heads_of layout lent → count ≡ length heads → n ≡ length lent
    → top ≡ head_line heads ∷ table_line.Rule thick ∷ [] → all ≡ top ++ body_lines layout n style actual goals
    → title ++ (line_feed ∷ line_feed ∷ []) ++ lines_text count all ≡ budget_text layout style columns actual goals
text_is layout style columns lent actual goals title heads count n top all same titled headed counted many topped is =
    (λ i. titled i ++ (line_feed ∷ line_feed ∷ []) ++ lines_text (counted i) (is i))
    ∙ (λ i. title_of lent ++ (line_feed ∷ line_feed ∷ []) ++ lines_text (length (headed i)) (topped i ++ body_lines layout (many i) style actual goals))
    ∙ (λ i. title_of lent ++ (line_feed ∷ line_feed ∷ []) ++ lines_text (length (heads_of layout lent)) (head_line (headed i) ∷ table_line.Rule thick ∷ body_lines layout (length lent) style actual goals))
    ∙ ap (λ (c : List Span). budget_text layout style c actual goals) same
