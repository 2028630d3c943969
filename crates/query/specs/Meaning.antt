-- What queries and searches mean, as their callers see them.
use Rattle.std.specs.Prelude.{Bool}
use Rattle.book.specs.declared.transaction.Posting.{Posting}
use Rattle.book.specs.declared.transaction.Txn.{Txn}
use Rattle.query.specs.Matching.{means_boundless, means_posting, means_txn, means_undated}
use Rattle.query.specs.OwnLetters.{own_in}
use Rattle.query.specs.declared.account_types.Types.{Types}
use Rattle.query.specs.declared.queries.Query.{Query}
use Rattle.query.specs.declared.queries.Search.{Search}
use Rattle.query_terms.specs.Finders.{known_in}
use Rattle.query_terms.specs.Sought.{known_of}

-- a query means a posting of a transaction, with the letters of its account's types
abbrev pub of_posting : Query → Types → Posting → Txn → Bool
of_posting query types posting txn =
    means_posting (known_of query.regexes.items) (own_in types) query.terms.items posting txn

-- it means the posting, whatever its day
abbrev pub of_undated : Query → Types → Posting → Txn → Bool
of_undated query types posting txn =
    means_undated (known_of query.regexes.items) (own_in types) query.terms.items posting txn

-- it means the posting, whatever bounds it has on days
abbrev pub of_boundless : Query → Types → Posting → Txn → Bool
of_boundless query types posting txn =
    means_boundless (known_of query.regexes.items) (own_in types) query.terms.items posting txn

-- it means the transaction
abbrev pub of_txn : Query → Types → Txn → Bool
of_txn query types txn = means_txn (known_of query.regexes.items) (own_in types) query.terms.items txn

-- the same of a search
abbrev pub sought_posting : Search → Types → Posting → Txn → Bool
sought_posting search types posting txn =
    means_posting (known_in search.finder) (own_in types) search.terms.now posting txn

abbrev pub sought_undated : Search → Types → Posting → Txn → Bool
sought_undated search types posting txn =
    means_undated (known_in search.finder) (own_in types) search.terms.now posting txn

abbrev pub sought_boundless : Search → Types → Posting → Txn → Bool
sought_boundless search types posting txn =
    means_boundless (known_in search.finder) (own_in types) search.terms.now posting txn

abbrev pub sought_txn : Search → Types → Txn → Bool
sought_txn search types txn = means_txn (known_in search.finder) (own_in types) search.terms.now txn
