-- What is asked by a query is what is asked by the terms of its words.
use Rattle.std.proofs.Common.{◌≡◌, ℕ, List, refl, ap, ◌∙◌}
use Rattle.book.specs.Style.{style_of}
use Rattle.book.specs.Styles.{style_in}
use Rattle.book.specs.declared.item.Placed.{Placed}
use Rattle.prices.specs.Quotes.{quotes_in}
use Rattle.query.specs.Building.{AreBuilt}
use Rattle.query.specs.Matching.{Own}
use Rattle.query.specs.OwnLetters.{own_in}
use Rattle.query.proofs.SameMeaning.{boundless_by_terms, posting_by_terms, txn_by_terms, undated_by_terms}
use Rattle.query_terms.specs.Reading.{sources_of}
use Rattle.report_sums.specs.Matters.{Matter, matter_of}
use Rattle.report_sums.specs.declared.job.Job.{Job}
use Rattle.report_takings.specs.Asking.{Question, question_of}
use Rattle.report_takings.specs.declared.scope.Scope.{Scope}
use Rattle.report_commands.specs.Matters.{letters_in, matter_over, question_over}

by_terms : (scope : Scope) → AreBuilt (sources_of scope.query.now.terms.items) scope.query.now.regexes.items
    → question_of scope ≡ question_over scope.options.now scope.day.0 scope.book.now (own_in scope.types.now) scope.query.now.terms.items
by_terms scope built = λ i. record {
  txns = scope.book.now.txns;
  means = λ entry. posting_by_terms scope.query.now scope.types.now built entry.0 entry.1 i;
  means_undated = λ entry. undated_by_terms scope.query.now scope.types.now built entry.0 entry.1 i;
  means_boundless = λ entry. boundless_by_terms scope.query.now scope.types.now built entry.0 entry.1 i;
  means_txn = λ txn. txn_by_terms scope.query.now scope.types.now built txn i;
  dates = (question_of scope).dates;
  depth = (question_of scope).depth;
  options = scope.options.now;
  day = scope.day.0;
}

pub same_letters : (a b : Own) → ((name : List ℕ) → a name ≡ b name) → a ≡ b
same_letters a b same = λ i name. same name i

pub question_is : (scope : Scope) (items : List Placed) → AreBuilt (sources_of scope.query.now.terms.items) scope.query.now.regexes.items
    → ((name : List ℕ) → own_in scope.types.now name ≡ letters_in items name)
    → question_of scope ≡ question_over scope.options.now scope.day.0 scope.book.now (letters_in items) scope.query.now.terms.items
question_is scope items built letters =
    by_terms scope built
    ∙ ap (λ (own : Own). question_over scope.options.now scope.day.0 scope.book.now own scope.query.now.terms.items)
    (same_letters (own_in scope.types.now) (letters_in items) letters)

pub matter_is : (job : Job) (items : List Placed) → AreBuilt (sources_of job.scope.query.now.terms.items) job.scope.query.now.regexes.items
    → ((name : List ℕ) → own_in job.scope.types.now name ≡ letters_in items name)
    → ((symbol : List ℕ) → style_in job.styles.now symbol ≡ style_of items symbol)
    → job.prices.now ≡ quotes_in items
    → matter_of job ≡ matter_over job.scope.options.now job.scope.day.0 items job.scope.book.now job.scope.query.now.terms.items
matter_is job items built letters styles quotes = λ i. record {
  asked = question_is job.scope items built letters i;
  style = λ symbol. styles symbol i;
  quotes = quotes i;
}
