use Rattle.std.proofs.Common.{◌≡◌, ℕ, ◌<◌, List, [], length, refl, sym, ap, subst, ◌∙◌}
use Rattle.std.proofs.lemmas.Result.{err_from_is_err_and}
use Rattle.hl_base.specs.Gives.{Gives}
use Rattle.hl_time.specs.declared.spans.Span.{Span}
use Rattle.book.specs.Styles.{style_in}
use Rattle.balance_layouts.specs.Balance as balances
use Rattle.balance_layouts.specs.Balance.{balance_text}
use Rattle.balance_rows.specs.declared.layout.Layout.{Layout}
use Rattle.report_commands.specs.Answered.{laid_balance, sums_in}
use Rattle.report_commands.specs.Layouts.{is_table, layout_of}
use Rattle.report_commands.proofs.Fitting.{balance_fits}
use Rattle.report_commands.proofs.Steps.{stop_gives, then_gives, unless_gives}
use Rattle.report_sums.specs.Celled.{Celled, cause, celled_of}
use Rattle.report_sums.specs.Matters.{Matter}
use Rattle.report_takings.specs.Asking.{Question, question_of}
use Rattle.kept_reports.proofs.Laying.{shown_fit, text_same}
use Rattle.kept_reports.proofs.balance.kept_balance.Goals as goal

pub balance_text-requires-clause-some : goal.balance_text-requires-clause-some
balance_text-requires-clause-some g c =
    let m : Matter = record { asked = question_of c.args.scope.now; style = style_in c.args.styles.now; quotes = [] } in
    let s = c.in_ok-cells.ensures.shown m refl in
    subst (λ (n : ℕ). 0 < n) (sym s.count) s.some

pub balance_text-requires-clause-fits : goal.balance_text-requires-clause-fits
balance_text-requires-clause-fits g c =
    let options = c.args.scope.now.options.now in
    let m : Matter = record { asked = question_of c.args.scope.now; style = style_in c.args.styles.now; quotes = [] } in
    let s = c.in_ok-cells.ensures.shown m refl in
    let cells = celled_of c.in_ok-cells.cells in
    subst (λ (layout : Layout). balances.CellsFit layout (length c.in_ok-cells.cells.columns) cells.rows cells.totals) (sym c.layout_of-layout.ensures)
    (shown_fit options c.requires.served.shown m.style c.in_ok-cells.cells.columns s.columns cells s.whole s.count s.same s.rows s.totals (balance_fits options (length s.columns) s.whole s.fits))

pub returns-clause-told : goal.returns-clause-told
returns-clause-told g c = λ m is style_is.
    let options = c.args.scope.now.options.now in
    let style = style_in c.args.styles.now in
    let s = c.in_ok-cells.ensures.shown m is in
    let columns = c.in_ok-cells.cells.columns in
    let cells = celled_of c.in_ok-cells.cells in
    let layout = c.layout_of-layout.result in
    let same : laid_balance (layout_of options) style columns cells ≡ laid_balance (layout_of m.asked.options) m.style s.columns s.whole =
    text_same options c.requires.served.shown style columns s.columns cells s.whole s.count (λ t. s.same (ap (λ (q : Question). is_table q.options) is ∙ t)) s.rows s.totals
    ∙ (λ i. laid_balance (layout_of (sym is i).options) (sym style_is i) s.columns s.whole) in
    then_gives (λ (text : List ℕ). text) c.balance_text.result (sums_in m) (s.columns, s.whole)
    (λ (sums : List Span × Celled). laid_balance (layout_of m.asked.options) m.style sums.0 sums.1)
    s.made
    (subst (λ made. Gives (λ (text : List ℕ). text) cause c.balance_text.result made) same
    (subst (λ (layout : Layout). Gives (λ (text : List ℕ). text) cause c.balance_text.result (laid_balance layout style columns cells)) c.layout_of-layout.ensures
    (unless_gives (λ (text : List ℕ). text) c.balance_text.result (balances.out_of_range layout (length columns) style cells.rows cells.totals)
    (balance_text layout style columns cells.rows cells.totals)
    c.balance_text.ensures.text c.balance_text.ensures.told c.balance_text.ensures.fault)))

pub returns-in_err-cells-clause-told : goal.returns-in_err-cells-clause-told
returns-in_err-cells-clause-told g c = λ m is style_is.
    let p = err_from_is_err_and c.from_residual.result c.from_residual.ensures.1 in
    rw (p.1, p.2) (stop_gives c.in_err-cells.field-0.0 (sums_in m)
    (λ (sums : List Span × Celled). laid_balance (layout_of m.asked.options) m.style sums.0 sums.1) (c.in_err-cells.ensures.shown m is))
