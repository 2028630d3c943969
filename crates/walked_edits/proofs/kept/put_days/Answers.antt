use Rattle.std.proofs.Common.{sym, ◌∙◌}
use Rattle.walked_edits.proofs.Keeping.{days_stay}
use Rattle.walked_edits.proofs.kept.put_days.Goals as goal

pub returns-then-has_postings-2 : goal.returns-then-has_postings-2
returns-then-has_postings-2 c book day days was of_old of_new =
    days_stay c.args.days.now book c.args.number day c.args.old.now c.args.new.now days was of_old of_new
    (sym c.has_postings.ensures ∙ c.if-has_postings.true) (sym c.has_postings-then-has_postings.ensures ∙ c.if-has_postings-2.true)

pub returns : goal.returns
returns c book day days was of_old of_new = c.in_ok-exchanged.ensures book days was
