use Rattle.std.proofs.Common.{◌∙◌, sym}
use Rattle.book.specs.Bounds.{places_in}
use Rattle.book.specs.Sums.{share}
use Rattle.placed_sums.proofs.Adding.{counted_value, no_places, uncounted_value}
use Rattle.live_cells.specs.Earlier.{is_earlier}
use Rattle.live_cells.proofs.over_book.posting_sum.Goals as goal

pub returns-then-is_earlier-clause-value : goal.returns-then-is_earlier-clause-value
returns-then-is_earlier-clause-value c =
    counted_value (is_earlier c.args.account.now c.args.below c.args.end.0 c.args.txn.now c.args.posting.now) (share c.args.symbol.now c.args.posting.now.amount) _ (sym c.is_earlier.ensures ∙ c.if-is_earlier.true) c.amount_sum.ensures.value

pub returns-else-is_earlier-clause-value : goal.returns-else-is_earlier-clause-value
returns-else-is_earlier-clause-value c =
    uncounted_value (is_earlier c.args.account.now c.args.below c.args.end.0 c.args.txn.now c.args.posting.now) (share c.args.symbol.now c.args.posting.now.amount) c.zero.result (sym c.is_earlier.ensures ∙ c.if-is_earlier.false) c.zero.ensures

pub returns-else-is_earlier-clause-places : goal.returns-else-is_earlier-clause-places
returns-else-is_earlier-clause-places c = no_places c.zero.result (places_in c.args.symbol.now c.args.posting.now.amount) c.zero.ensures
