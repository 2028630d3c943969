-- What a call answers, said in other words, and the text of a report as a table.
use Rattle.std.proofs.Common.{◌≡◌, ℕ, Bool, true, cond, List, length, None, Result, Ok, Err, IfOk, sym, ap, ◌∙◌}
use Rattle.hl_time.specs.declared.spans.Span.{Span}
use Rattle.book.specs.declared.style.Style.{Style}
use Rattle.report_cells.specs.Report.{Sums}
use Rattle.balance_rows.specs.declared.layout.Layout.{Layout}
use Rattle.balance_rows.specs.Layouts.{laid_rows}
use Rattle.balance_rows.specs.Rows.{Row}
use Rattle.balance_layouts.specs.Balance.{balance_text, out_of_range}
use Rattle.balance_layouts.specs.Lists.{balance_list}
use Rattle.balance_layouts.specs.Tables.{balance_table}
use Rattle.balance_layouts.specs.Totals.{first_out}

-- what follows from a value that was answered
pub if_ok : {T E : Type 0} (r : Result T E) (P Q : T → Type 0) → ((x : T) → P x → Q x) → IfOk r P → IfOk r Q
if_ok (Ok x) P Q f h = f x h
if_ok (Err e) P Q f h = tt

-- a report with an interval
pub table_laid : (layout : Layout) (style : List ℕ → Style) (columns : List Span) (rows laid : List Row) (totals : List Sums) (n : ℕ)
    → layout.table ≡ true → n ≡ length columns → laid ≡ laid_rows layout n rows
    → balance_table layout style columns laid totals ≡ balance_text layout style columns rows totals
table_laid layout style columns rows laid totals n asked many is =
    ap (λ (all : List Row). balance_table layout style columns all totals) (is ∙ ap (λ (k : ℕ). laid_rows layout k rows) many)
    ∙ ap (λ (b : Bool). cond b (balance_table layout style columns (laid_rows layout (length columns) rows) totals) (balance_list layout style (laid_rows layout (length columns) rows) totals)) (sym asked)

-- the least symbol out of range in it
pub out_laid : (layout : Layout) (style : List ℕ → Style) (columns : List Span) (rows laid : List Row) (totals : List Sums) (n : ℕ)
    → layout.table ≡ true → n ≡ length columns → laid ≡ laid_rows layout n rows
    → first_out layout (length columns) style laid totals ≡ out_of_range layout (length columns) style rows totals
out_laid layout style columns rows laid totals n asked many is =
    ap (λ (all : List Row). first_out layout (length columns) style all totals) (is ∙ ap (λ (k : ℕ). laid_rows layout k rows) many)
    ∙ ap (λ (b : Bool). cond b (first_out layout (length columns) style (laid_rows layout (length columns) rows) totals) None) (sym asked)
