-- A search that means what the query does.
use Rattle.std.proofs.Common.{◌≡◌, true, false, ◌&&◌, List, sym, ap, ◌∙◌}
use Rattle.book.specs.declared.transaction.Txn.{Txn}
use Rattle.query.specs.Matching as matching
use Rattle.query.specs.Meaning.{sought_txn}
use Rattle.query.specs.OwnLetters.{own_in}
use Rattle.query.specs.declared.queries.Query.{Query}
use Rattle.query.specs.declared.queries.Search.{Search}
use Rattle.query_terms.specs.Finders.{known_in}
use Rattle.query_terms.specs.Patterns.{Known}
use Rattle.query_terms.specs.Sought.{known_of}
use Rattle.query_terms.specs.declared.kinds.Term.{Term}
use Rattle.report_takings.specs.Asking.{Question, Serves, question_of}
use Rattle.report_takings.specs.declared.scope.Scope.{Scope}
use Rattle.journal_listings.specs.Printed.{given, is_printed}

pub txn_is : (scope : Scope) (search : Search) (t : Txn) → Serves search scope.query.now → sought_txn search scope.types.now t ≡ (question_of scope).means_txn t
txn_is scope search t serves =
    ap (λ (known : Known). matching.means_txn known (own_in scope.types.now) search.terms.now t) serves.known
    ∙ ap (λ (terms : List Term). matching.means_txn (known_of scope.query.now.regexes.items) (own_in scope.types.now) terms t) serves.terms

-- what a search finds stays
pub serves_still : (old new : Search) (query : Query) → Serves old query → known_in new.finder ≡ known_in old.finder → new.terms.now ≡ old.terms.now → Serves new query
serves_still old new query serves known terms = record { terms = terms ∙ serves.terms; known = known ∙ serves.known }

module _ (asked : Question) (t : Txn) where
  -- inside the bounds the query decides
  pub inside_is : matching.lies_in (given asked) t.day.0 ≡ true → asked.means_txn t ≡ is_printed asked t
  inside_is inside = sym (ap (λ b. b && asked.means_txn t) inside)

  pub outside_is : matching.lies_in (given asked) t.day.0 ≡ false → false ≡ is_printed asked t
  outside_is outside = sym (ap (λ b. b && asked.means_txn t) outside)
