use Rattle.std.proofs.Common.{◌∙◌, ap}
use Rattle.text_store.specs.Names.{places_in}
use Rattle.text_store.proofs.Named.{put_in}
use Rattle.text_store.proofs.naming.put_copy.Goals as goal

pub returns-clause-ok : goal.returns-clause-ok
returns-clause-ok c = ap places_in c.in_ok-insert.ensures.entries ∙ put_in c.args.places.now.entries c.args.name c.args.place
