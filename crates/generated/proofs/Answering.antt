-- A search of a rule answers what its terms mean.
use Rattle.std.proofs.Common.{◌≡◌, List, sym, ap, ◌∙◌}
use Rattle.book.specs.declared.transaction.Posting.{Posting}
use Rattle.book.specs.declared.transaction.Txn.{Txn}
use Rattle.query.specs.Matching.{means_posting}
use Rattle.query.specs.Meaning.{of_posting, sought_posting}
use Rattle.query.specs.OwnLetters.{own_in}
use Rattle.query.specs.Words.{terms_mean}
use Rattle.query.specs.declared.account_types.Types.{Types}
use Rattle.query.specs.declared.queries.Query.{Query}
use Rattle.query_terms.specs.Finders.{known_in}
use Rattle.query_terms.specs.Patterns.{Known}
use Rattle.query_terms.specs.Sought.{known_of}
use Rattle.query_terms.specs.declared.kinds.Term.{Term}
use Rattle.generated.specs.Alone.{are_of_accounts}
use Rattle.generated.specs.Asking.{Answers, Asks, asked_of}
use Rattle.generated.specs.declared.asking.Asker.{Asker}

pub answered : (asker : Asker) (types : Types) (posting : Posting) (txn : Txn) → Answers asker
    → sought_posting asker.search types posting txn ≡ terms_mean (asked_of asker).terms (own_in types) posting txn
answered asker types posting txn so =
    ap (λ (known : Known). means_posting known (own_in types) asker.search.terms.now posting txn) so.known
    ∙ ap (λ (terms : List Term). means_posting (known_of asker.query.now.regexes.items) (own_in types) terms posting txn) so.terms
    ∙ so.means types posting txn

-- after it was asked
pub still : (old new : Asker) → Answers old → new.query.now ≡ old.query.now → new.rule.now ≡ old.rule.now → new.alone ≡ old.alone
    → known_in new.search.finder ≡ known_in old.search.finder → new.search.terms.now ≡ old.search.terms.now → Asks old new
still old new so query rule alone known terms = record {
  same = λ i. record { terms = (query i).terms.items; postings = (rule i).postings };
  answers = record {
    terms = terms ∙ so.terms ∙ ap (λ (q : Query). q.terms.items) (sym query);
    known = known ∙ so.known ∙ ap (λ (q : Query). known_of q.regexes.items) (sym query);
    means = λ types posting txn. subst_means types posting txn;
    alone = λ is. ap (λ (q : Query). are_of_accounts q.terms.items) query ∙ so.alone (sym alone ∙ is);
  };
} where
  subst_means : (types : Types) (posting : Posting) (txn : Txn) → of_posting new.query.now types posting txn ≡ terms_mean new.query.now.terms.items (own_in types) posting txn
  subst_means types posting txn =
      ap (λ (q : Query). of_posting q types posting txn) query ∙ so.means types posting txn
      ∙ ap (λ (q : Query). terms_mean q.terms.items (own_in types) posting txn) (sym query)
