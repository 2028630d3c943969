use Rattle.std.proofs.Common.{◌+◌, ◌<◌}
use Rattle.moved_lines.proofs.Lists.{changed-all, changed-can, changed-step}
use Rattle.loaded_texts.specs.Growing.{lengthened}
use Rattle.loaded_texts.proofs.lengthening.lengthen_all.Goals as goal

pub lengthen_one-requires : goal.lengthen_one-requires
lengthen_one-requires c =
    changed-can (lengthened c.args.more) c.args.items.now c.loop-placed.items c.loop-placed.placed-index (λ p. p.piece.len + c.args.more < 18446744073709551616) c.placed-item.result
    c.loop-placed-test.true c.loop-placed.invariant c.requires

pub loop-placed-preserved : goal.loop-placed-preserved
loop-placed-preserved c =
    changed-step (lengthened c.args.more) c.args.items.now c.loop-placed.items c.loop-placed.placed-index c.placed-item.result c.lengthen_one.new.placed
    c.loop-placed-test.true c.loop-placed.invariant c.lengthen_one.ensures

pub returns : goal.returns
returns c =
    changed-all (lengthened c.args.more) c.args.items.now c.loop-placed.items c.loop-placed.placed-index c.loop-placed-test.false c.loop-placed.invariant
