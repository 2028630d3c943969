use Rattle.std.proofs.Common.{◌∙◌}
use Rattle.entry_balance.specs.Tally.{named}
use Rattle.entry_balance.proofs.Settling.{recorded_is}
use Rattle.entry_balance.proofs.plan.make_plan.Goals as goal

pub returns-clause-recorded : goal.returns-clause-recorded
returns-clause-recorded c =
    (rw (c.exchanges-exchanges.ensures, c.deref-2.ensures.value) at c.in-Ok-recorded_if.ensures)
    ∙ recorded_is c.args.postings.now (named c.in-Ok.real.left.items) c.in-Ok.ensures.left
