use Rattle.std.proofs.Common.{◌≡◌, ℕ, List, length, sym, subst}
use Rattle.std.proofs.lemmas.Result.{err_from_is_err_and}
use Rattle.hl_base.specs.Gives.{Gives}
use Rattle.hl_time.specs.declared.spans.Span.{Span}
use Rattle.book.specs.Styles.{style_in}
use Rattle.balance_rows.specs.declared.layout.Layout.{Layout}
use Rattle.query.specs.OwnLetters.{own_in}
use Rattle.statements.specs.Fits as fits
use Rattle.statements.specs.Written as statements
use Rattle.statements.specs.Written.{statement_text}
use Rattle.statements.specs.declared.statement.Statement.TheVariants.{Income}
use Rattle.report_sums.specs.Celled.{Celled, cause, celled_of}
use Rattle.report_sums.specs.Matters.{matter_of}
use Rattle.report_commands.specs.Answered.{laid_statement, sums_in}
use Rattle.report_commands.specs.Layouts.{layout_of}
use Rattle.report_commands.proofs.Fitting.{statement_fits}
use Rattle.report_commands.proofs.Steps.{stop_gives, then_gives, unless_gives}
use Rattle.report_commands.proofs.tables.income.Goals as goal

pub income_text-requires-clause-fits : goal.income_text-requires-clause-fits
income_text-requires-clause-fits c =
    let options = c.args.job.now.scope.options.now in
    subst (λ (layout : Layout). fits.CellsFit layout (celled_of c.in_ok-cells.cells).rows) (sym c.layout_of-layout.ensures)
    (statement_fits options (length c.in_ok-cells.cells.columns) (celled_of c.in_ok-cells.cells) c.in_ok-cells.ensures.fits)

pub returns : goal.returns
returns c =
    let options = c.args.job.now.scope.options.now in
    let style = style_in c.args.job.now.styles.now in
    let own = own_in c.args.job.now.scope.types.now in
    let columns = c.in_ok-cells.cells.columns in
    let cells = celled_of c.in_ok-cells.cells in
    let layout = c.layout_of-layout.result in
    then_gives (λ (text : List ℕ). text) c.income_text.result (sums_in (matter_of c.args.job.now)) (columns, cells)
    (λ (sums : List Span × Celled). laid_statement Income (layout_of options) own style sums.0 sums.1)
    c.in_ok-cells.ensures.told
    (subst (λ (layout : Layout). Gives (λ (text : List ℕ). text) cause c.income_text.result (laid_statement Income layout own style columns cells)) c.layout_of-layout.ensures
    (unless_gives (λ (text : List ℕ). text) c.income_text.result (statements.out_of_range Income layout own style (length columns) cells.rows)
    (statement_text Income layout own style columns cells.rows)
    c.income_text.ensures.text c.income_text.ensures.told c.income_text.ensures.fault))

pub returns-in_err-cells : goal.returns-in_err-cells
returns-in_err-cells c =
    let options = c.args.job.now.scope.options.now in
    let style = style_in c.args.job.now.styles.now in
    let own = own_in c.args.job.now.scope.types.now in
    let p = err_from_is_err_and c.from_residual.result c.from_residual.ensures.1 in
    rw (p.1, p.2) (stop_gives c.in_err-cells.field-0.0 (sums_in (matter_of c.args.job.now))
    (λ (sums : List Span × Celled). laid_statement Income (layout_of options) own style sums.0 sums.1) c.in_err-cells.ensures.told)
