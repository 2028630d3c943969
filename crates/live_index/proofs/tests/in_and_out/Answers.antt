use Rattle.std.proofs.Common.{◌∙◌, rules}
use Rattle.live_index.proofs.SmallRows.{fits-after}
use Rattle.live_index.proofs.tests.in_and_out.Goals as goal

pub only_prepared-requires : goal.only_prepared-requires
only_prepared-requires g c = fits-after c.in_ok-index.index c.as_slice.result.now c.as_slice-2.result.now c.in_ok-index.ensures (search rules) (search rules)

pub prepare-requires : goal.prepare-requires
prepare-requires g c = fits-after c.only_prepared.new.index c.as_slice.result.now c.as_slice-4.result.now (c.only_prepared.ensures ∙ c.in_ok-index.ensures) (search rules) (search rules)
