use Rattle.std.proofs.Common.{sym, ◌∙◌}
use Rattle.walked_edits.proofs.Keeping.{days_left}
use Rattle.walked_edits.proofs.kept.leave_days.Goals as goal

pub returns-then-not-has_postings : goal.returns-then-not-has_postings
returns-then-not-has_postings c book days was =
    days_left c.args.days.now book c.args.number c.args.old.now c.args.held.now days was (sym c.has_postings.ensures ∙ c.if-not-has_postings.true) c.requires

pub returns : goal.returns
returns c book days was = c.in_ok-exchanged.ensures book days was
