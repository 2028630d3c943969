use Rattle.live_index.proofs.NetLaws.{fits-into_none}
use Rattle.live_index.proofs.index.Index.of.Goals as goal

pub prepare-requires : goal.prepare-requires
prepare-requires c = fits-into_none c.in_ok-index.index c.args.rows.now c.in_ok-index.ensures c.requires
