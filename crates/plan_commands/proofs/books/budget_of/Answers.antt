use Rattle.std.proofs.Common.{◌≡◌, ℕ, List, ap, subst, ◌∙◌}
use Rattle.hl_base.specs.Gives.{Gives}
use Rattle.report_options.specs.declared.options.Options.{Options}
use Rattle.report_sums.specs.Matters.{Matter, matter_of}
use Rattle.report_commands.specs.Matters.{matter_over}
use Rattle.report_commands.proofs.Questions.{matter_is}
use Rattle.plan_commands.specs.Faults.{plan_cause}
use Rattle.plan_commands.specs.Reports.{budget_in}
use Rattle.plan_commands.proofs.Stages.{some_interval}
use Rattle.plan_commands.proofs.books.budget_of.Goals as goal

pub budget-requires : goal.budget-requires
budget-requires c = some_interval c.args.job.now.scope.options.now c.args.asked.now.options c.requires.made.options c.requires.valid

pub returns : goal.returns
returns c =
    let job = c.args.job.now in
    let items = c.args.items.now in
    let day = job.scope.day.0 in
    let terms = job.scope.query.now.terms.items in
    let made = c.requires.made in
    let same : matter_of job ≡ matter_over c.args.asked.now.options day items job.scope.book.now terms =
    matter_is job items made.query.built made.letters made.styles made.quotes
    ∙ ap (λ (o : Options). matter_over o day items job.scope.book.now terms) made.options in
    subst (λ (m : Matter). Gives (λ (text : List ℕ). text) plan_cause c.budget.result (budget_in items m)) same c.budget.ensures
