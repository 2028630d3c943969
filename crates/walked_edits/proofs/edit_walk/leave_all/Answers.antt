use Rattle.walked_edits.proofs.Rooming.{item_inside, leaving_begins, leaving_done, leaving_more, still_back, still_in}
use Rattle.walked_edits.proofs.edit_walk.leave_all.Goals as goal

pub loop-spot-init : goal.loop-spot-init
loop-spot-init g c = leaving_begins c.args.edit.now c.args.book.now.items c.args.kept.now c.args.olds.now.items c.requires.ready c.requires.none

pub leave_one-requires-clause-inside : goal.leave_one-requires-clause-inside
leave_one-requires-clause-inside g c =
    item_inside c.args.edit.now c.args.book.now.items c.loop-spot.book.items c.args.kept.now c.loop-spot.kept c.loop-spot.olds.items c.args.spots.now _ c.loop-spot.spot-index _ c.requires.ready c.requires.spots c.loop-spot-test.true c.loop-spot.invariant

pub leave_one-requires-clause-olds : goal.leave_one-requires-clause-olds
leave_one-requires-clause-olds g c = c.loop-spot.invariant.inside

pub leave_one-requires-clause-sums : goal.leave_one-requires-clause-sums
leave_one-requires-clause-sums g c = c.loop-spot.invariant.are.sums

pub loop-spot-preserved : goal.loop-spot-preserved
loop-spot-preserved g c =
    leaving_more c.args.edit.now c.args.book.now.items c.loop-spot.book.items c.leave_one.new.book.items c.loop-spot.kept c.leave_one.new.kept c.loop-spot.olds.items c.leave_one.new.olds.items c.args.spots.now c.loop-spot.spot-index _
    c.loop-spot-test.true
    (item_inside c.args.edit.now c.args.book.now.items c.loop-spot.book.items c.args.kept.now c.loop-spot.kept c.loop-spot.olds.items c.args.spots.now _ c.loop-spot.spot-index _ c.requires.ready c.requires.spots c.loop-spot-test.true c.loop-spot.invariant)
    c.loop-spot.invariant c.in_ok-leave_one.ensures.leaves

pub returns-clause-left : goal.returns-clause-left
returns-clause-left g c = leaving_done c.args.edit.now c.args.book.now.items c.loop-spot.book.items c.loop-spot.kept c.loop-spot.olds.items c.args.spots.now c.loop-spot.spot-index c.requires.spots c.loop-spot-test.false c.loop-spot.invariant

pub returns-clause-back : goal.returns-clause-back
returns-clause-back g c = c.loop-spot.invariant.back

pub returns-clause-inside : goal.returns-clause-inside
returns-clause-inside g c = c.loop-spot.invariant.inside

pub returns-in_err-leave_one-clause-back : goal.returns-in_err-leave_one-clause-back
returns-in_err-leave_one-clause-back g c =
    still_back c.args.book.now.items c.loop-spot.book.items c.leave_one.new.book.items c.loop-spot.olds.items c.leave_one.new.olds.items c.in_err-leave_one.ensures.stays.0 c.in_err-leave_one.ensures.stays.1 c.loop-spot.invariant.back

pub returns-in_err-leave_one-clause-inside : goal.returns-in_err-leave_one-clause-inside
returns-in_err-leave_one-clause-inside g c =
    still_in c.loop-spot.book.items c.leave_one.new.book.items c.loop-spot.olds.items c.leave_one.new.olds.items c.in_err-leave_one.ensures.stays.0 c.in_err-leave_one.ensures.stays.1 c.loop-spot.invariant.inside
