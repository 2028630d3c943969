use Rattle.std.proofs.Common.{◌∙◌}
use Rattle.text_store.proofs.Named.{found_at}
use Rattle.text_store.proofs.naming.place_of.Goals as goal

pub returns : goal.returns
returns c = c.copied.ensures ∙ c.get.ensures.value ∙ found_at c.args.places.now.entries c.args.name.now
