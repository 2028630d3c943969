use Rattle.std.proofs.Common.{◌∙◌, sym}
use Rattle.book.specs.Bounds.{places_in}
use Rattle.book.specs.Sums.{share}
use Rattle.placed_sums.specs.Own.{is_posted}
use Rattle.placed_sums.proofs.Adding.{counted_value, no_places, uncounted_value}
use Rattle.placed_sums.proofs.today.posting_sum.Goals as goal

pub returns-then-is_posted-clause-value : goal.returns-then-is_posted-clause-value
returns-then-is_posted-clause-value c =
    counted_value (is_posted c.args.account.now c.args.below c.args.day.0 c.args.txn.now c.args.posting.now) (share c.args.symbol.now c.args.posting.now.amount) _ (sym c.is_posted.ensures ∙ c.if-is_posted.true) c.amount_sum.ensures.value

pub returns-else-is_posted-clause-value : goal.returns-else-is_posted-clause-value
returns-else-is_posted-clause-value c =
    uncounted_value (is_posted c.args.account.now c.args.below c.args.day.0 c.args.txn.now c.args.posting.now) (share c.args.symbol.now c.args.posting.now.amount) c.zero.result (sym c.is_posted.ensures ∙ c.if-is_posted.false) c.zero.ensures

pub returns-else-is_posted-clause-places : goal.returns-else-is_posted-clause-places
returns-else-is_posted-clause-places c = no_places c.zero.result (places_in c.args.symbol.now c.args.posting.now.amount) c.zero.ensures
