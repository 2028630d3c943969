-- A search that means what the query does.
use Rattle.std.proofs.Common.{◌≡◌, List, ap, ◌∙◌}
use Rattle.book.specs.declared.transaction.Posting.{Posting}
use Rattle.book.specs.declared.transaction.Txn.{Txn}
use Rattle.query.specs.Matching.{means_boundless, means_posting, means_undated}
use Rattle.query.specs.Meaning.{sought_boundless, sought_posting, sought_undated}
use Rattle.query.specs.OwnLetters.{own_in}
use Rattle.query.specs.declared.queries.Query.{Query}
use Rattle.query.specs.declared.queries.Search.{Search}
use Rattle.query_terms.specs.Finders.{known_in}
use Rattle.query_terms.specs.Patterns.{Known}
use Rattle.query_terms.specs.Sought.{known_of}
use Rattle.query_terms.specs.declared.kinds.Term.{Term}
use Rattle.report_takings.specs.Asking.{Serves, question_of}
use Rattle.report_takings.specs.declared.scope.Scope.{Scope}

module _ (scope : Scope) (search : Search) (p : Posting) (t : Txn) (serves : Serves search scope.query.now) where
  pub posting_is : sought_posting search scope.types.now p t ≡ (question_of scope).means (p, t)
  posting_is =
      ap (λ (known : Known). means_posting known (own_in scope.types.now) search.terms.now p t) serves.known
      ∙ ap (λ (terms : List Term). means_posting (known_of scope.query.now.regexes.items) (own_in scope.types.now) terms p t) serves.terms

  pub undated_is : sought_undated search scope.types.now p t ≡ (question_of scope).means_undated (p, t)
  undated_is =
      ap (λ (known : Known). means_undated known (own_in scope.types.now) search.terms.now p t) serves.known
      ∙ ap (λ (terms : List Term). means_undated (known_of scope.query.now.regexes.items) (own_in scope.types.now) terms p t) serves.terms

  pub boundless_is : sought_boundless search scope.types.now p t ≡ (question_of scope).means_boundless (p, t)
  boundless_is =
      ap (λ (known : Known). means_boundless known (own_in scope.types.now) search.terms.now p t) serves.known
      ∙ ap (λ (terms : List Term). means_boundless (known_of scope.query.now.regexes.items) (own_in scope.types.now) terms p t) serves.terms

-- what a search finds stays
pub serves_still : (old new : Search) (query : Query) → Serves old query → known_in new.finder ≡ known_in old.finder → new.terms.now ≡ old.terms.now → Serves new query
serves_still old new query serves known terms = record { terms = terms ∙ serves.terms; known = known ∙ serves.known }
