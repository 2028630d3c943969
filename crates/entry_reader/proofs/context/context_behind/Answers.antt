use Rattle.std.proofs.Common.{take}
use Rattle.entry_reader.specs.Contexts.{items_at}
use Rattle.entry_reader.proofs.Behind.{context_more}
use Rattle.entry_reader.proofs.context.context_behind.Goals as goal

pub loop-placed-preserved : goal.loop-placed-preserved
loop-placed-preserved c =
    context_more c.args.year c.args.items.now c.loop-placed.placed-index c.placed-item.result c.after.new.self c.loop-placed-test.true c.placed-item.is
    (c.in_ok-after.ensures.items c.args.year (items_at (take c.loop-placed.placed-index c.args.items.now)) c.loop-placed.invariant)
