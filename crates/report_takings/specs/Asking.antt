-- What a report is asked over.
use Rattle.std.specs.Prelude.{ℕ, Bool, List, Option}
use Rattle.hl_time.specs.declared.spans.Period.{Period}
use Rattle.book.specs.declared.transaction.Txn.{Txn}
use Rattle.query.specs.Matching.{dates_in, depth_in}
use Rattle.query.specs.Meaning.{of_boundless, of_posting, of_txn, of_undated}
pub use Rattle.query.specs.Serving.{Serves}
use Rattle.report_options.specs.declared.options.Options.{Options}
use Rattle.report_takings.specs.Entries.{Entry, entries_of}
use Rattle.report_takings.specs.declared.scope.Scope.{Scope}

-- the transactions of a book; which of their postings the query means, which whatever their days, which whatever its bounds
-- on days, and which transactions; the bounds that its terms of days have in common, and its depth; the options, and the day
-- that is handed in
pub record Question : Type 0 where
  pub txns : List Txn
  pub means : Entry → Bool
  pub means_undated : Entry → Bool
  pub means_boundless : Entry → Bool
  pub means_txn : Txn → Bool
  pub dates : Period
  pub depth : Option ℕ
  pub options : Options
  pub day : ℕ

-- what a report is asked over a book by a query
abbrev pub question_of : Scope → Question
question_of scope = record {
  txns = scope.book.now.txns;
  means = λ entry. of_posting scope.query.now scope.types.now entry.0 entry.1;
  means_undated = λ entry. of_undated scope.query.now scope.types.now entry.0 entry.1;
  means_boundless = λ entry. of_boundless scope.query.now scope.types.now entry.0 entry.1;
  means_txn = λ txn. of_txn scope.query.now scope.types.now txn;
  dates = dates_in scope.query.now.terms.items;
  depth = depth_in scope.query.now.terms.items;
  options = scope.options.now;
  day = scope.day.0;
}

-- the postings of its book
abbrev pub entries : Question → List Entry
entries asked = entries_of asked.txns
