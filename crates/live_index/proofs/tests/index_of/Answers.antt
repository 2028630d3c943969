use Rattle.live_index.proofs.SmallRows.{fits-of}
use Rattle.live_index.proofs.tests.index_of.Goals as goal

pub prepare-requires : goal.prepare-requires
prepare-requires c = fits-of c.in_ok-index.index c.args.rows.now c.in_ok-index.ensures c.requires
