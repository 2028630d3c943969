-- What a report is made of, over the items of a text and their book.
use Rattle.std.specs.Prelude.{ℕ, List, Option}
use Rattle.book.specs.Style.{style_of}
use Rattle.book.specs.declared.item.Book.{Book}
use Rattle.book.specs.declared.item.Placed.{Placed}
use Rattle.prices.specs.Quotes.{quotes_in}
use Rattle.query.specs.Matching.{Own, dates_in, depth_in}
use Rattle.query.specs.Types.{declared_of, own_letter}
use Rattle.query.specs.Words.{terms_mean, terms_mean_boundless, terms_mean_txn, terms_mean_undated}
use Rattle.query_terms.specs.declared.kinds.Term.{Term}
use Rattle.report_options.specs.declared.options.Options.{Options}
use Rattle.report_sums.specs.Matters.{Matter}
use Rattle.report_takings.specs.Asking.{Question}

-- the letters that accounts have of their own
abbrev pub letters_in : List Placed → Own
letters_in items = own_letter (declared_of items)

-- what is asked over a book by the terms of a query, where accounts have these letters
abbrev pub question_over : Options → ℕ → Book → Own → List Term → Question
question_over options day book own terms = record {
  txns = book.txns;
  means = λ entry. terms_mean terms own entry.0 entry.1;
  means_undated = λ entry. terms_mean_undated terms own entry.0 entry.1;
  means_boundless = λ entry. terms_mean_boundless terms own entry.0 entry.1;
  means_txn = λ txn. terms_mean_txn terms own txn;
  dates = dates_in terms;
  depth = depth_in terms;
  options = options;
  day = day;
}

-- with the styles and the prices of the text
abbrev pub matter_over : Options → ℕ → List Placed → Book → List Term → Matter
matter_over options day items book terms = record {
  asked = question_over options day book (letters_in items) terms;
  style = style_of items;
  quotes = quotes_in items;
}
