-- Which searches are those of a query.
use Rattle.std.specs.Prelude.{◌≡◌}
use Rattle.query_terms.specs.Finders.{known_in}
use Rattle.query_terms.specs.Sought.{known_of}
use Rattle.query.specs.declared.queries.Query.{Query}
use Rattle.query.specs.declared.queries.Search.{Search}

-- a search means what the query does
pub record Serves (search : Search) (query : Query) : Type 0 where
  pub terms : search.terms.now ≡ query.terms.items
  pub known : known_in search.finder ≡ known_of query.regexes.items
