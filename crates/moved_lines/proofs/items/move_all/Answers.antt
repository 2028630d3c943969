use Rattle.moved_lines.specs.Moving.{moved_placed, CanMovePlaced}
use Rattle.moved_lines.proofs.Lists.{changed-all, changed-can, changed-step}
use Rattle.moved_lines.proofs.items.move_all.Goals as goal

pub move_placed-requires : goal.move_placed-requires
move_placed-requires c =
    changed-can (moved_placed c.args.by) c.args.items.now c.loop-placed.items c.loop-placed.placed-index (CanMovePlaced c.args.by) c.placed-item.result
    c.loop-placed-test.true c.loop-placed.invariant c.requires

pub loop-placed-preserved : goal.loop-placed-preserved
loop-placed-preserved c =
    changed-step (moved_placed c.args.by) c.args.items.now c.loop-placed.items c.loop-placed.placed-index c.placed-item.result c.move_placed.new.placed
    c.loop-placed-test.true c.loop-placed.invariant c.move_placed.ensures

pub returns : goal.returns
returns c =
    changed-all (moved_placed c.args.by) c.args.items.now c.loop-placed.items c.loop-placed.placed-index c.loop-placed-test.false c.loop-placed.invariant
