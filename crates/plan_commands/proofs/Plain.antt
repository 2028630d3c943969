-- Reports without rules and without budgets.
use Rattle.std.proofs.Common.{◌≡◌, ℕ, Bool, true, false, ◌||◌, is_some, List, Option, Some, None, Result, Ok, Err, refl, ap, ◌∙◌, sym}
use Rattle.std.proofs.lemmas.Bool.{false≢true}
use Rattle.hl_time.specs.declared.spans.Period.{Period}
use Rattle.book.specs.declared.item.Book.{Book}
use Rattle.book.specs.declared.item.Placed.{Placed}
use Rattle.query.specs.Matching.{dates_in}
use Rattle.query_terms.specs.Reading.{terms_of}
use Rattle.query_terms.specs.declared.kinds.Term.{Term}
use Rattle.report_options.specs.declared.options.Options.{Options}
use Rattle.report_commands.specs.Reports as plain
use Rattle.report_commands.specs.declared.asked.Asked.{Asked}
use Rattle.report_commands.proofs.Answering.{by_terms}
use Rattle.plan_commands.specs.Books.{planned_book}
use Rattle.plan_commands.specs.Bounds.{given_bounds}
use Rattle.plan_commands.specs.Faults.{widened}
use Rattle.plan_commands.specs.Reports.{answer_by, answer_over, asks_rules, on_made, plain_over}

-- an answer is that of the terms
pub read_as : (asked : Asked) (day : ℕ) (items : List Placed) (book : Book) (read : Result (List Term) (List ℕ)) → terms_of day asked.words ≡ read
    → answer_over asked day items book ≡ answer_by asked.options day items book read
unfolding answer_over
read_as asked day items book read is = ap (λ (q : Result (List Term) (List ℕ)). answer_by asked.options day items book q) is

-- what is answered without rules is what the command answers
pub plain_is : (asked : Asked) (day : ℕ) (items : List Placed) (book : Book) (terms : List Term) → terms_of day asked.words ≡ Ok terms
    → widened (plain.answer_over asked day items book) ≡ plain_over asked.options day items terms book
plain_is asked day items book terms read = ap (λ (q : plain.Report). widened q) (by_terms asked day items book (Ok terms) read)

-- nothing is asked for
no_auto : (a : Bool) (f : Option Period) (b : Bool) → (a || is_some f || b) ≡ false → a ≡ false
no_auto true f b is = is
no_auto false f b is = refl

no_forecast : (a : Bool) (f : Option Period) (b : Bool) → (a || is_some f || b) ≡ false → f ≡ None
no_forecast true f b is = absurd (false≢true (sym is))
no_forecast false (Some period) b is = absurd (false≢true (sym is))
no_forecast false None b is = refl

no_budget : (a : Bool) (f : Option Period) (b : Bool) → (a || is_some f || b) ≡ false → b ≡ false
no_budget true f b is = absurd (false≢true (sym is))
no_budget false (Some period) b is = absurd (false≢true (sym is))
no_budget false None b is = is

by_reading : (options : Options) (day : ℕ) (items : List Placed) (book : Book) (read : Result (List Term) (List ℕ)) → asks_rules options ≡ false
    → answer_by options day items book read ≡ widened (plain.answer_by options day items book read)
by_reading options day items book (Ok terms) is =
    let auto = no_auto options.auto options.forecast options.budget is in
    let forecast = no_forecast options.auto options.forecast options.budget is in
    let budget = no_budget options.auto options.forecast options.budget is in
    λ i. on_made (budget i) options day items terms (planned_book (forecast i) (auto i) (given_bounds options (dates_in terms)) day items book)
by_reading options day items book (Err word) is = refl

pub plain_reports : (asked : Asked) (day : ℕ) (items : List Placed) (book : Book) → asks_rules asked.options ≡ false
    → answer_over asked day items book ≡ widened (plain.answer_over asked day items book)
plain_reports asked day items book is =
    read_as asked day items book (terms_of day asked.words) refl
    ∙ by_reading asked.options day items book (terms_of day asked.words) is
    ∙ sym (ap (λ (q : plain.Report). widened q) (by_terms asked day items book (terms_of day asked.words) refl))
