-- What the terms of a query mean by what the grammar of regexes reads in their sources, whoever builds these.
use Rattle.std.specs.Prelude.{Bool, List}
use Rattle.book.specs.declared.transaction.Posting.{Posting}
use Rattle.book.specs.declared.transaction.Txn.{Txn}
use Rattle.query.specs.Matching.{Own, means_boundless, means_posting, means_undated, means_txn}
use Rattle.query_terms.specs.Reading.{sources_of}
use Rattle.query_terms.specs.Readings.{known_by}
use Rattle.query_terms.specs.declared.kinds.Term.{Term}

-- the terms mean a posting of a transaction
abbrev pub terms_mean : List Term → Own → Posting → Txn → Bool
terms_mean terms own posting txn = means_posting (known_by (sources_of terms)) own terms posting txn

-- they mean it, whatever its day
abbrev pub terms_mean_undated : List Term → Own → Posting → Txn → Bool
terms_mean_undated terms own posting txn = means_undated (known_by (sources_of terms)) own terms posting txn

-- they mean it, whatever bounds they have on days
abbrev pub terms_mean_boundless : List Term → Own → Posting → Txn → Bool
terms_mean_boundless terms own posting txn = means_boundless (known_by (sources_of terms)) own terms posting txn

-- they mean the transaction
abbrev pub terms_mean_txn : List Term → Own → Txn → Bool
terms_mean_txn terms own txn = means_txn (known_by (sources_of terms)) own terms txn
