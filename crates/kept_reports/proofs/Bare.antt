-- What is asked by a query without words.
use Rattle.std.proofs.Common.{◌≡◌, ℕ, List, [], Ok, Err, Result, refl, sym, ap, ◌∙◌}
use Rattle.book.specs.declared.item.Book.{Book}
use Rattle.book.specs.declared.item.Placed.{Placed}
use Rattle.query.specs.Made.{IsQueryOf}
use Rattle.query.specs.Matching.{Own, dates_in, depth_in, means_boundless, means_posting, means_txn, means_undated}
use Rattle.query.specs.OwnLetters.{own_in}
use Rattle.query.specs.declared.queries.Query.{Query}
use Rattle.query_terms.specs.Reading.{terms_of}
use Rattle.query_terms.specs.Sought.{known_of}
use Rattle.query_terms.specs.declared.kinds.Term.{Term}
use Rattle.report_commands.specs.Answered.{balance_of, text_by}
use Rattle.report_commands.specs.Matters.{letters_in, matter_over, question_over}
use Rattle.report_commands.specs.Reports.{answer_over, as_report}
use Rattle.report_commands.specs.declared.asked.Asked.{Asked}
use Rattle.report_commands.proofs.Answering.{text_given}
use Rattle.report_options.specs.declared.command.Command.{Command}
use Rattle.report_options.specs.declared.command.Command.TheVariants as commands
use Rattle.report_options.specs.declared.options.Options.{Options}
use Rattle.report_takings.specs.Asking.{question_of}
use Rattle.report_takings.specs.declared.scope.Scope.{Scope}

-- such a query has no terms
abbrev terms_told : Result (List Term) (List ℕ) → List Term
terms_told (Ok terms) = terms
terms_told (Err word) = []

pub no_terms : (day : ℕ) (words : List (List ℕ)) (query : Query) → words ≡ [] → IsQueryOf day words query → query.terms.items ≡ []
no_terms day words query none made = ap terms_told (sym made.read) ∙ ap (λ (ws : List (List ℕ)). terms_told (terms_of day ws)) none

-- whatever letters accounts have, it means all postings
pub bare_question : (scope : Scope) (own : Own) → scope.query.now.terms.items ≡ []
    → question_of scope ≡ question_over scope.options.now scope.day.0 scope.book.now own []
bare_question scope own bare = λ i. record {
  txns = scope.book.now.txns;
  means = λ entry. means_posting (known_of scope.query.now.regexes.items) (own_in scope.types.now) (bare i) entry.0 entry.1;
  means_undated = λ entry. means_undated (known_of scope.query.now.regexes.items) (own_in scope.types.now) (bare i) entry.0 entry.1;
  means_boundless = λ entry. means_boundless (known_of scope.query.now.regexes.items) (own_in scope.types.now) (bare i) entry.0 entry.1;
  means_txn = λ txn. means_txn (known_of scope.query.now.regexes.items) (own_in scope.types.now) (bare i) txn;
  dates = dates_in (bare i);
  depth = depth_in (bare i);
  options = scope.options.now;
  day = scope.day.0;
}

-- a balance without words
pub bare_answer : (asked : Asked) (day : ℕ) (items : List Placed) (book : Book) → asked.words ≡ [] → asked.options.command ≡ commands.Balance
    → answer_over asked day items book ≡ as_report (balance_of (matter_over asked.options day items book []))
bare_answer asked day items book none is =
    text_given asked day items book [] (letters_in items) (matter_over asked.options day items book []) (ap (terms_of day) none) refl refl
    ∙ ap (λ (command : Command). as_report (text_by command (letters_in items) (matter_over asked.options day items book []))) is

-- what is asked of the matter of the text
pub bare_matter : (scope : Scope) (options : Options) (items : List Placed) → scope.query.now.terms.items ≡ [] → scope.options.now ≡ options
    → (matter_over options scope.day.0 items scope.book.now []).asked ≡ question_of scope
bare_matter scope options items bare is =
    sym (bare_question scope (letters_in items) bare ∙ ap (λ (o : Options). question_over o scope.day.0 scope.book.now (letters_in items) []) is)
