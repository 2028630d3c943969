use Rattle.query_terms.specs.Reading.{source_of, sources_in}
use Rattle.query.proofs.Built.{grows_tag}
use Rattle.query.proofs.building.build_tag.Goals as goal

pub returns-in-Ok-clause-grows : goal.returns-in-Ok-clause-grows
returns-in-Ok-clause-grows g c = grows_tag c.build_value.result (source_of c.args.name.now) (sources_in c.args.value.now) c.args.regexes.now.items c.build_pattern.new.regexes.items c.build_value.new.regexes.items c.in-Ok.ensures.grows c.build_value.ensures.grows
