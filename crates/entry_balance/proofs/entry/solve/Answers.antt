use Rattle.std.proofs.Common.{List, Some, cond, ap, ◌∙◌}
use Rattle.book.specs.declared.fault.Cause.TheVariants as cause
use Rattle.book.specs.declared.transaction.Posting.{Posting}
use Rattle.entry_balance.specs.Entry.{costs_fit, moved, with_postings}
use Rattle.entry_balance.specs.Tally.{turnover_fits}
use Rattle.entry_balance.proofs.Causes.{if_ok}
use Rattle.entry_balance.proofs.Covers.{solved_costs_fit}
use Rattle.entry_balance.proofs.entry.solve.Goals as goal

pub judged-requires : goal.judged-requires
judged-requires c = ap costs_fit c.in_ok-postings.ensures ∙ solved_costs_fit c.args.txn.postings c.requires.costs

pub returns-clause-txn : goal.returns-clause-txn
returns-clause-txn c = if_ok _ _ c.judged.result (λ s is. is ∙ ap (with_postings c.args.txn) c.in_ok-postings.ensures) c.judged.ensures.txn

pub returns-clause-cause : goal.returns-clause-cause
returns-clause-cause c =
    if_ok _ _ c.judged.result
    (λ s is. is ∙ ap (λ (ps : List Posting). cond (turnover_fits (moved ps)) c.args.plan.cause (Some cause.Range)) c.in_ok-postings.ensures)
    c.judged.ensures.cause
