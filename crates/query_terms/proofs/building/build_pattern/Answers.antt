use Rattle.query_terms.proofs.Built.{grows_pushed}
use Rattle.query_terms.proofs.building.build_pattern.Goals as goal

pub returns-in-Ok-clause-grows : goal.returns-in-Ok-clause-grows
returns-in-Ok-clause-grows g c = rw c.in-Special.is (grows_pushed c.push_regex.result _ c.args.regexes.now.items c.push_regex.new.regexes.items c.in-Ok.regex c.in-Ok.ensures.made c.push_regex.ensures.pushed)
