-- A statement over the rows of all accounts.
use Rattle.std.proofs.Common.{◌≡◌, ℕ, List, ◌++◌, length, Option, ap, sym, subst, ◌∙◌}
use Rattle.hl_time.specs.declared.spans.Span.{Span}
use Rattle.book.specs.declared.style.Style.{Style}
use Rattle.report_table.specs.Tables.{table_text}
use Rattle.balance_rows.specs.declared.layout.Layout.{Layout}
use Rattle.balance_rows.specs.Rows.{Row}
use Rattle.balance_layouts.specs.Averages.{least}
use Rattle.balance_layouts.specs.Titles.{heads_of, span_text}
use Rattle.statements.specs.declared.statement.Part.{Part}
use Rattle.statements.specs.declared.statement.Statement.{Statement}
use Rattle.statements.specs.declared.writing.Body.{Body}
use Rattle.statements.specs.Chosen.{part_rows}
use Rattle.statements.specs.Described.{first_of, second_of, title_of}
use Rattle.statements.specs.Fits.{CellsFit, PartsFit}
use Rattle.statements.specs.Written.{IsBody, out_of_range, parts_out, statement_text, table_of}
use Rattle.statements.proofs.Alike.{statement_is}
use Rattle.statements.proofs.Parted.{parts_fit}

module _ (own : List ℕ → Option ℕ) (statement : Statement) (layout : Layout) (style : List ℕ → Style)
    (columns lent : List Span) (rows read : List Row) (first second : Part) (upper lower : List Row) (count : ℕ)
    (columns_are : lent ≡ columns) (rows_are : read ≡ rows) (first_is : first ≡ first_of statement) (second_is : second ≡ second_of statement)
    (upper_is : upper ≡ part_rows own first read) (lower_is : lower ≡ part_rows own second read) (counted : count ≡ length lent) where
  uppers : upper ≡ part_rows own (first_of statement) rows
  uppers = upper_is ∙ (λ i. part_rows own (first_is i) (rows_are i))

  lowers : lower ≡ part_rows own (second_of statement) rows
  lowers = lower_is ∙ (λ i. part_rows own (second_is i) (rows_are i))

  counts : count ≡ length columns
  counts = counted ∙ ap length columns_are

  pub made_fit : CellsFit layout rows → PartsFit layout upper lower
  made_fit fits =
      subst (λ (t : List Row). PartsFit layout t lower) (sym uppers)
      (subst (λ (t : List Row). PartsFit layout (part_rows own (first_of statement) rows) t) (sym lowers) (parts_fit own statement layout rows fits))

  pub made_out : least (parts_out layout count style upper lower) ≡ out_of_range statement layout own style (length columns) rows
  made_out = λ i. least (parts_out layout (counts i) style (uppers i) (lowers i))

  pub made_text : (title : List ℕ) (heads : List (List ℕ)) (body : Body)
      → title ≡ title_of statement ++ span_text lent → heads ≡ heads_of layout lent
      → IsBody statement layout count style upper lower body
      → table_text style (record { title = title; heads = heads; sections = body.sections; last = body.last })
      ≡ statement_text statement layout own style columns rows
  made_text title heads body titled headed made =
      statement_is style statement layout columns upper lower title heads body
      (titled ∙ ap (λ (t : List Span). title_of statement ++ span_text t) columns_are)
      (headed ∙ ap (heads_of layout) columns_are)
      (subst (λ (n : ℕ). IsBody statement layout n style upper lower body) counts made)
      ∙ (λ i. table_text style (table_of statement layout style columns (uppers i) (lowers i)))
