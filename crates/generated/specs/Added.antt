-- The postings that automated rules add to transactions.
use Rattle.std.specs.Prelude.{Bool, List, [], ◌∷◌, map, if◌then◌else◌}
use Rattle.std.specs.List.{flat_map}
use Rattle.book.specs.declared.transaction.Posting.{Posting}
use Rattle.book.specs.declared.transaction.Txn.{Txn}
use Rattle.entry_balance.specs.Entry.{with_postings}
use Rattle.query.specs.Matching.{Own}
use Rattle.query.specs.Words.{terms_mean}
use Rattle.rule_entries.specs.Added.{made_posting}
use Rattle.generated.specs.Rules.{Asked}

-- what a rule adds behind a posting, where it means that
abbrev pub added_if : Bool → Posting → Asked → List Posting
added_if means posting rule = if means then map (made_posting posting) rule.postings else []

-- what a rule adds behind a posting of a transaction: its postings, where its terms mean that one
abbrev pub added_by : Own → Txn → Posting → Asked → List Posting
added_by own txn posting rule = added_if (terms_mean rule.terms own posting txn) posting rule

-- what some rules add behind a posting, in their order
abbrev pub added : Own → List Asked → Txn → Posting → List Posting
added own rules txn posting = flat_map (added_by own txn posting) rules

-- the postings that some rules add to a transaction
abbrev pub added_to : Own → List Asked → Txn → List Posting
added_to own rules txn = flat_map (added own rules txn) txn.postings

-- the postings that some rules add to transactions
abbrev pub all_added : Own → List Asked → List Txn → List Posting
all_added own rules txns = flat_map (added_to own rules) txns

-- a transaction with what some rules add, behind each of its postings what they add for it
abbrev pub with_added : Own → List Asked → Txn → Txn
with_added own rules txn = with_postings txn (flat_map (λ posting. posting ∷ added own rules txn posting) txn.postings)
