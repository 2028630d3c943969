use Rattle.std.proofs.Common.{arith}
use Rattle.kept_books.proofs.Spotting.{spots_all, spots_step}
use Rattle.kept_books.proofs.spots.spots_from.Goals as goal

pub loop-at-preserved : goal.loop-at-preserved
loop-at-preserved c =
    spots_step c.args.first c.args.forms.now c.loop-at.at _ c.index-forms-at.result c.loop-at.spots.items c.push_spot.new.spots.items (omega arith) c.index-forms-at.is (omega arith) c.loop-at.invariant c.in_ok-push_spot.ensures

pub returns : goal.returns
returns c = spots_all c.args.first c.args.forms.now c.loop-at.at c.loop-at.spots.items (omega arith) c.loop-at.invariant
