use Rattle.std.proofs.Common.{[], sym, subst}
use Rattle.std.proofs.lemmas.Result.{err_from_is_err_and}
use Rattle.index_cells.specs.Asks.{AsksFor, nodes_shown}
use Rattle.report_commands.specs.Answered.{balance_of}
use Rattle.report_commands.specs.Matters.{matter_over}
use Rattle.report_commands.specs.Reports.{answer_over}
use Rattle.report_commands.proofs.Answering.{made_report, refused_report}
use Rattle.report_options.specs.Options.{IsValid}
use Rattle.report_options.specs.declared.options.Options.{Options}
use Rattle.report_takings.specs.Asking.{Question}
use Rattle.report_takings.specs.Columns.{columns_of}
use Rattle.kept_reports.specs.Served.{IsServed}
use Rattle.kept_reports.proofs.Bare.{bare_answer, bare_matter}
use Rattle.kept_reports.proofs.reporting.over_scope.Goals as goal

pub kept_balance-requires-clause-valid : goal.kept_balance-requires-clause-valid
kept_balance-requires-clause-valid g c = subst (λ (o : Options). IsValid o) (sym c.requires.options) c.requires.valid

pub kept_balance-requires-clause-served : goal.kept_balance-requires-clause-served
kept_balance-requires-clause-served g c = subst (λ (o : Options). IsServed o) (sym c.requires.options) c.requires.served

pub returns-clause-answer : goal.returns-clause-answer
returns-clause-answer g c = λ items styles.
    let asked = c.args.asked.now in
    let scope = c.args.scope.now in
    let m = matter_over asked.options scope.day.0 items scope.book.now [] in
    made_report c.in_ok-kept_balance.field-0 (balance_of m) (answer_over asked scope.day.0 items scope.book.now)
    (bare_answer asked scope.day.0 items scope.book.now c.requires.words c.requires.served.balance)
    (c.in_ok-kept_balance.ensures.told m (bare_matter scope asked.options items c.requires.bare c.requires.options) (λ i symbol. sym (styles symbol) i))

pub returns-in_err-kept_balance-clause-answer : goal.returns-in_err-kept_balance-clause-answer
returns-in_err-kept_balance-clause-answer g c = λ items styles.
    let asked = c.args.asked.now in
    let scope = c.args.scope.now in
    let m = matter_over asked.options scope.day.0 items scope.book.now [] in
    let p = err_from_is_err_and c.from_residual.result c.from_residual.ensures.1 in
    rw (p.1, p.2) (refused_report c.in_err-kept_balance.field-0.0 (balance_of m) (answer_over asked scope.day.0 items scope.book.now)
    (bare_answer asked scope.day.0 items scope.book.now c.requires.words c.requires.served.balance)
    (c.in_err-kept_balance.ensures.told m (bare_matter scope asked.options items c.requires.bare c.requires.options) (λ i symbol. sym (styles symbol) i)))

pub returns-clause-asked : goal.returns-clause-asked
returns-clause-asked g c = λ items.
    subst (λ (q : Question). AsksFor (nodes_shown c.args.kept.now (columns_of q)) c.args.steps.now c.kept_balance.new.steps)
    (sym (bare_matter c.args.scope.now c.args.asked.now.options items c.requires.bare c.requires.options)) c.kept_balance.ensures.asked

pub returns-in_err-kept_balance-clause-asked : goal.returns-in_err-kept_balance-clause-asked
returns-in_err-kept_balance-clause-asked g c = λ items.
    subst (λ (q : Question). AsksFor (nodes_shown c.args.kept.now (columns_of q)) c.args.steps.now c.kept_balance.new.steps)
    (sym (bare_matter c.args.scope.now c.args.asked.now.options items c.requires.bare c.requires.options)) c.kept_balance.ensures.asked
