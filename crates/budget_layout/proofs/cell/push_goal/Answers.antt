use Rattle.std.proofs.Common.{◌≡◌, [], string_bytes, sym, ap, ◌∙◌}
use Rattle.std.proofs.lemmas.List.{nil_from_length}
use Rattle.book.specs.Styles.{style_in}
use Rattle.report_cells.specs.Report.{seen}
use Rattle.balance_rows.specs.Kept.{KeptSums}
use Rattle.balance_layouts.specs.Averages.{least_with}
use Rattle.budget_layout.specs.Percents.{out_by, percent_out}
use Rattle.budget_layout.specs.declared.percent.Percent.{Percent}
use Rattle.budget_layout.proofs.Alike.{goal_shown, no_goal}
use Rattle.budget_layout.proofs.cell.push_goal.Goals as goal

pub returns-in_default-clause-text : goal.returns-in_default-clause-text
returns-in_default-clause-text c =
    no_goal (style_in c.args.styles.now) (seen c.args.actual.now) c.args.goal.now (string_bytes c.args.out.now)
    (nil_from_length c.args.goal.now c.in_default.ensures.cases)

pub returns-in_default-clause-least : goal.returns-in_default-clause-least
returns-in_default-clause-least c =
    let is : c.args.goal.now ≡ [] = nil_from_length c.args.goal.now c.in_default.ensures.cases in
    sym (ap (λ (g : KeptSums). least_with c.args.least.now (percent_out (seen c.args.actual.now) (seen g))) is)

pub returns-clause-text : goal.returns-clause-text
returns-clause-text c =
    goal_shown (style_in c.args.styles.now) (seen c.args.actual.now) c.args.goal.now c.in-Some.first.now c.in-Some.rest.now c.percent_in-percent.result
    (string_bytes c.args.out.now) (string_bytes c.push_bracketed.new.out) c.in-Some.ensures.cases.0
    c.percent_in-percent.ensures c.in_ok-push_bracketed.ensures

pub returns-clause-least : goal.returns-clause-least
returns-clause-least c =
    let old = c.args.least.now in
    c.in_ok-note_percent.ensures
    ∙ ap (λ (p : Percent). least_with old (out_by c.in-Some.first.now.0 p)) c.percent_in-percent.ensures
    ∙ sym (ap (λ (g : KeptSums). least_with old (percent_out (seen c.args.actual.now) (seen g))) c.in-Some.ensures.cases.0)
