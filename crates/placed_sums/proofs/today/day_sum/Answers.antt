use Rattle.std.proofs.Common.{arith}
use Rattle.book.specs.Postings.{postings_of}
use Rattle.placed_sums.proofs.Adding.{can_add_number, none_in, number_added, numbers_done}
use Rattle.placed_sums.proofs.today.day_sum.Goals as goal

pub loop-place-init : goal.loop-place-init
loop-place-init g c = none_in (postings_of (g.B.ByNumber.txns c.args.book.now)) c.args.symbol.now c.zero-sum.result c.zero-sum.ensures

pub number_sum-part-requires : goal.number_sum-part-requires
number_sum-part-requires g c = c.requires.fits

pub sum_of-sum-requires : goal.sum_of-sum-requires
sum_of-sum-requires g c =
    can_add_number (g.B.ByNumber.txns c.args.book.now) c.args.account.now c.args.symbol.now c.args.below c.args.day.0 c.args.places.now c.loop-place.place-index _ c.loop-place.sum c.number_sum-part.result (omega arith)
    c.requires.fits c.requires.part c.loop-place.invariant c.number_sum-part.ensures

pub loop-place-preserved : goal.loop-place-preserved
loop-place-preserved g c =
    number_added (g.B.ByNumber.txns c.args.book.now) c.args.account.now c.args.symbol.now c.args.below c.args.day.0 c.args.places.now c.loop-place.place-index _ c.loop-place.sum c.number_sum-part.result c.sum_of-sum.result (omega arith)
    c.loop-place.invariant c.number_sum-part.ensures c.sum_of-sum.ensures.value c.sum_of-sum.ensures.places

pub returns : goal.returns
returns g c =
    numbers_done (g.B.ByNumber.txns c.args.book.now) c.args.account.now c.args.symbol.now c.args.below c.args.day.0 c.args.places.now c.loop-place.place-index c.loop-place.sum (omega arith) c.loop-place.invariant
