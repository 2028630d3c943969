use Rattle.std.proofs.Common.{sym, ap, ◌∙◌}
use Rattle.hl_time.specs.declared.spans.Period.{Period}
use Rattle.query.specs.Matching.{lies_in}
use Rattle.report_takings.specs.Asking.{question_of}
use Rattle.journal_listings.proofs.Sought.{txn_is, serves_still, inside_is, outside_is}
use Rattle.journal_listings.proofs.printing.is_printed.Goals as goal

pub returns-then-lies_in-clause-printed : goal.returns-then-lies_in-clause-printed
returns-then-lies_in-clause-printed c =
    let day = c.args.txn.now.day.0 in
    c.txn.ensures.found
    ∙ txn_is c.args.scope.now c.args.search.now c.args.txn.now c.requires.serves
    ∙ inside_is (question_of c.args.scope.now) c.args.txn.now (sym (ap (λ (bounds : Period). lies_in bounds day) c.requires.bounds) ∙ sym c.lies_in.ensures ∙ c.if-lies_in.true)

pub returns-then-lies_in-clause-serves : goal.returns-then-lies_in-clause-serves
returns-then-lies_in-clause-serves c =
    serves_still c.args.search.now c.txn.new.self c.args.scope.now.query.now c.requires.serves c.txn.ensures.known c.txn.ensures.terms

pub returns-else-lies_in-clause-printed : goal.returns-else-lies_in-clause-printed
returns-else-lies_in-clause-printed c =
    let day = c.args.txn.now.day.0 in
    outside_is (question_of c.args.scope.now) c.args.txn.now (sym (ap (λ (bounds : Period). lies_in bounds day) c.requires.bounds) ∙ sym c.lies_in.ensures ∙ c.if-lies_in.false)
