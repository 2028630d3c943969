use Rattle.std.proofs.Common.{◌∙◌}
use Rattle.assertions.proofs.Keeping.{held-places}
use Rattle.assertions.proofs.kept.place_of.Goals as goal

pub returns : goal.returns
returns c = c.copied.ensures ∙ c.get.ensures.value ∙ held-places c.args.places.now.entries c.args.name.now
