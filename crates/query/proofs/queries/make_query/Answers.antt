use Rattle.std.proofs.Common.{List, subst}
use Rattle.query.specs.Building.{AreBuilt}
use Rattle.query_terms.specs.Reading.{sources_of}
use Rattle.query_terms.specs.declared.kinds.Term.{Term}
use Rattle.query.proofs.Bounds.{dates_are_days}
use Rattle.query.proofs.queries.make_query.Goals as goal

pub returns-in-Ok-build_all : goal.returns-in-Ok-build_all
returns-in-Ok-build_all g c =
    let built = subst (λ (ts : List Term). AreBuilt (sources_of ts) c.in-Ok-build_all.regexes.items) c.deref.ensures.value c.in-Ok-build_all.ensures.built in
    (record { read = c.in-Ok.ensures.read; built = built; days = dates_are_days c.in-Ok.terms.items c.in-Ok.ensures.days }, c.in-Ok-build_all.ensures.tells)
