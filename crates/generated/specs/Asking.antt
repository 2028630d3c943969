-- Rules that are asked about postings.
use Rattle.std.specs.Prelude.{◌≡◌, true, List, map}
use Rattle.std.specs.List.{AllByRecursion}
use Rattle.book.specs.declared.transaction.Posting.{Posting}
use Rattle.book.specs.declared.transaction.Txn.{Txn}
use Rattle.query.specs.Meaning.{of_posting}
use Rattle.query.specs.OwnLetters.{own_in}
use Rattle.query.specs.Words.{terms_mean}
use Rattle.query.specs.declared.account_types.Types.{Types}
use Rattle.query_terms.specs.Finders.{known_in}
use Rattle.query_terms.specs.Sought.{known_of}
use Rattle.generated.specs.Alone.{are_of_accounts}
use Rattle.generated.specs.Rules.{Asked}
use Rattle.generated.specs.declared.rules.RuleQuery.{RuleQuery}
use Rattle.generated.specs.declared.asking.Asker.{Asker}

-- its query means what its terms do, and where it is said to, asks for accounts alone
pub record IsQuery (read : RuleQuery) : Type 0 where
  pub means : (types : Types) (posting : Posting) (txn : Txn)
      → of_posting read.query types posting txn ≡ terms_mean read.query.terms.items (own_in types) posting txn
  pub alone : read.alone ≡ true → are_of_accounts read.query.terms.items ≡ true

abbrev pub AreQueries : List RuleQuery → Type 0
AreQueries reads = AllByRecursion IsQuery reads

-- what a rule that is asked asks for and adds
abbrev pub asked_of : Asker → Asked
asked_of asker = record { terms = asker.query.now.terms.items; postings = asker.rule.now.postings }

abbrev pub all_asked : List Asker → List Asked
all_asked askers = map asked_of askers

-- its search is that of its query, which means what its terms do, and where it is said to, asks for accounts alone
pub record Answers (asker : Asker) : Type 0 where
  pub terms : asker.search.terms.now ≡ asker.query.now.terms.items
  pub known : known_in asker.search.finder ≡ known_of asker.query.now.regexes.items
  pub means : (types : Types) (posting : Posting) (txn : Txn)
      → of_posting asker.query.now types posting txn ≡ terms_mean asker.query.now.terms.items (own_in types) posting txn
  pub alone : asker.alone ≡ true → are_of_accounts asker.query.now.terms.items ≡ true

abbrev pub AllAnswer : List Asker → Type 0
AllAnswer askers = AllByRecursion Answers askers

-- one that was asked asks for the same, and answers as before
pub record Asks (old new : Asker) : Type 0 where
  pub same : asked_of new ≡ asked_of old
  pub answers : Answers new

-- the same of some
pub record AllAsk (old new : List Asker) : Type 0 where
  pub same : all_asked new ≡ all_asked old
  pub answers : AllAnswer new
