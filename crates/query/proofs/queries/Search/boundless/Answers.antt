use Rattle.std.proofs.Common.{◌∙◌}
use Rattle.query_terms.specs.Finders.{known_in}
use Rattle.query.specs.Matching.{term_holds}
use Rattle.query.specs.OwnLetters.{own_in}
use Rattle.query.proofs.Dateless.{boundless_is}
use Rattle.query.proofs.queries.Search.boundless.Goals as goal

pub returns-clause-found : goal.returns-clause-found
returns-clause-found c = c.matches.ensures.found ∙ boundless_is (term_holds (known_in c.args.self.now.finder) (own_in c.args.types.now) c.args.posting.now c.args.txn.now) c.args.self.now.terms.now
