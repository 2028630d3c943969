use Rattle.std.proofs.Common.{◌∙◌}
use Rattle.placed_sums.proofs.Replacing.{prepared_fits, prepared_is}
use Rattle.placed_sums.proofs.replaced.prepare_replaced.Goals as goal

pub prepare-requires : goal.prepare-requires
prepare-requires c =
    prepared_fits c.args.index.now c.deref.result.now c.args.old.now c.args.new.now (c.deref.ensures.value ∙ c.in_ok-rows.ensures) c.requires

pub returns-clause-made : goal.returns-clause-made
returns-clause-made c =
    prepared_is c.args.index.now c.deref.result.now c.args.old.now c.args.new.now c.in_ok-prepared.prepared c.in_ok-prepared.ensures.made (c.deref.ensures.value ∙ c.in_ok-rows.ensures)
