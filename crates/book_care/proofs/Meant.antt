-- A search that means what the query does.
use Rattle.std.proofs.Common.{◌≡◌, List, ap, ◌∙◌}
use Rattle.book.specs.declared.transaction.Posting.{Posting}
use Rattle.book.specs.declared.transaction.Txn.{Txn}
use Rattle.query.specs.Matching.{means_posting}
use Rattle.query.specs.Meaning.{sought_posting}
use Rattle.query.specs.OwnLetters.{own_in}
use Rattle.query.specs.declared.queries.Query.{Query}
use Rattle.query.specs.declared.queries.Search.{Search}
use Rattle.query_terms.specs.Finders.{known_in}
use Rattle.query_terms.specs.Patterns.{Known}
use Rattle.query_terms.specs.Sought.{known_of}
use Rattle.query_terms.specs.declared.kinds.Term.{Term}
use Rattle.book_care.specs.Asked.{asked_of, Serves}
use Rattle.book_care.specs.declared.close.Closing.{Closing}

pub means_is : (closing : Closing) (search : Search) (p : Posting) (t : Txn) → Serves search closing.query.now → sought_posting search closing.types.now p t ≡ (asked_of closing).means (p, t)
means_is closing search p t serves =
    ap (λ (known : Known). means_posting known (own_in closing.types.now) search.terms.now p t) serves.known
    ∙ ap (λ (terms : List Term). means_posting (known_of closing.query.now.regexes.items) (own_in closing.types.now) terms p t) serves.terms

-- what a search finds stays
pub serves_still : (old new : Search) (query : Query) → Serves old query → known_in new.finder ≡ known_in old.finder → new.terms.now ≡ old.terms.now → Serves new query
serves_still old new query serves known terms = record { terms = terms ∙ serves.terms; known = known ∙ serves.known }
