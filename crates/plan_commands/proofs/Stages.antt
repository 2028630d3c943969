-- What is told of a report with what rules make, one step after another.
use Rattle.std.proofs.Common.{◌≡◌, ℕ, ◌≤◌, Bool, true, false, List, ◌++◌, Option, Some, None, Result, Ok, Err, refl, sym, ap, subst, ◌∙◌}
use Rattle.std.specs.Prelude.{IfSome}
use Rattle.hl_base.specs.Gives.{Gives}
use Rattle.hl_time.specs.Periods.{IsPeriod}
use Rattle.hl_time.specs.declared.spans.Period.{Period}
use Rattle.hl_time.specs.declared.spans.Span.{Span}
use Rattle.book.specs.declared.fault.Fault.{Fault}
use Rattle.book.specs.declared.item.Book.{Book}
use Rattle.book.specs.declared.item.Placed.{Placed}
use Rattle.generated.specs.Auto.{Autos, auto_of}
use Rattle.generated.specs.Judged.{judged, unless_too_many}
use Rattle.generated.specs.Periodic.{forecast_of}
use Rattle.generated.specs.Refusals.{cause_of}
use Rattle.generated.specs.Windows.{window_of}
use Rattle.generated.specs.declared.fault.GenFault.{GenFault}
use Rattle.generated.specs.declared.fault.GenFault.TheVariants as gen_fault
use Rattle.query.specs.Made.{Makes}
use Rattle.query.specs.declared.faults.QueryFault.{QueryFault}
use Rattle.query.specs.declared.faults.QueryFault.TheVariants as query_fault
use Rattle.query_terms.specs.Making.{Stays}
use Rattle.query_terms.specs.Reading.{terms_of}
use Rattle.query_terms.specs.declared.kinds.Term.{Term}
use Rattle.report_cells.specs.declared.fault.ReportFault.{ReportFault}
use Rattle.report_cells.specs.declared.fault.ReportFault.TheVariants as report_fault
use Rattle.report_options.specs.declared.options.Options.{Options}
use Rattle.report_sums.specs.Celled.{cause}
use Rattle.report_sums.specs.Matters.{Matter}
use Rattle.report_takings.specs.Columns.{columns_of}
use Rattle.report_commands.specs.Faults.{of_query, of_report}
use Rattle.report_commands.specs.Matters.{matter_over}
use Rattle.report_commands.specs.Reports as plain
use Rattle.report_commands.specs.declared.asked.Asked.{Asked}
use Rattle.rule_entries.specs.Counted.{excess_of}
use Rattle.rule_entries.specs.Making.{made_by_day, made_of}
use Rattle.rule_entries.specs.declared.counting.Excess.{Excess}
use Rattle.plan_commands.specs.Books.{planned_book, then_rules, with_forecast}
use Rattle.plan_commands.specs.Faults.{of_rules, of_words, plan_cause, widened}
use Rattle.plan_commands.specs.Plans.{given_in, terms_in}
use Rattle.plan_commands.specs.Reports.{Report, answer_by, answer_over, as_report, asks_rules, beside, budget_over, on_made, plain_over, report_on}
use Rattle.plan_commands.specs.Telling.{Answers, Never, RefusesLast, RefusesLater, RefusesRule, Tells, TellsPlanned, TellsRuled}
use Rattle.plan_commands.specs.declared.fault.PlanFault.TheVariants as plan_fault
use Rattle.plan_commands.specs.declared.plan.Plan.{Plan}
use Rattle.plan_commands.proofs.Never.{never_untold}
use Rattle.plan_commands.proofs.Plain.{plain_reports, read_as}
use Rattle.plan_commands.proofs.Telling.{defined_so, given_tells, refused_so, stays_back}

-- ---- a report over a book

module _ (options : Options) (day : ℕ) (items : List Placed) (terms : List Term) (book : Book) (words : List (List ℕ)) where
  -- a budget asks no maker
  pub budget_tells : (count : ℕ) (last : Option (List ℕ)) (r : Report) → options.budget ≡ true
      → Gives (λ (text : List ℕ). text) plan_cause r (budget_over options day items terms book)
      → Tells day words count count last last (report_on options.budget options day items terms book) Never r
  budget_tells count last r is given =
      let m = matter_over options day items book terms in
      defined_so day words count count last last (budget_over options day items terms book) (report_on options.budget options day items terms book) Never r
      (ap (λ (budget : Bool). report_on budget options day items terms book) (sym is))
      (given_tells day words count count last last (budget_over options day items terms book) Never r (record { count = refl; told = refl })
      (never_untold items m (columns_of m.asked)) given)

  pub plain_so : (before now : ℕ) (last_before last_now : Option (List ℕ)) (r : Report) → options.budget ≡ false
      → Tells day words before now last_before last_now (plain_over options day items terms book) Never r
      → Tells day words before now last_before last_now (report_on options.budget options day items terms book) Never r
  plain_so before now last_before last_now r is told =
      defined_so day words before now last_before last_now (plain_over options day items terms book) (report_on options.budget options day items terms book) Never r
      (ap (λ (budget : Bool). report_on budget options day items terms book) (sym is)) told

-- ---- with what automated rules add

module _ (plan : Plan) (book : Book) where
  abbrev on : Result Book GenFault → Report
  on made = on_made plan.asked.now.options.budget plan.asked.now.options plan.day.0 plan.items.now (terms_in plan) made

  pub ruled : (made : Book) (before mid now : ℕ) (last_before last_mid last_now : Option (List ℕ)) (r : Report)
      → auto_of plan.day.0 plan.items.now book.txns ≡ Ok made → Stays before mid last_before last_mid
      → Tells plan.day.0 plan.asked.now.words mid now last_mid last_now (on (Ok made)) Never r
      → TellsRuled plan true book before now last_before last_now r
  ruled made before mid now last_before last_mid last_now r is stays told =
      stays_back (λ (count : ℕ) (last : Option (List ℕ)). TellsRuled plan true book count now last last_now r) before mid last_before last_mid stays
      (defined_so plan.day.0 plan.asked.now.words mid now last_mid last_now (on (Ok made)) (on (auto_of plan.day.0 plan.items.now book.txns))
      (λ (line : ℕ). RefusesRule true plan.day.0 plan.items.now line mid now last_now) r
      (ap (λ (q : Result Book GenFault). on q) (sym is))
      (refused_so plan.day.0 plan.asked.now.words mid now last_mid last_now (on (Ok made)) Never
      (λ (line : ℕ). RefusesRule true plan.day.0 plan.items.now line mid now last_now) r (λ line never. absurd never) told))

  pub rules_stop : (before now : ℕ) (last_before last_now : Option (List ℕ)) (fault : GenFault)
      → Autos plan.day.0 plan.items.now book.txns before now last_before last_now (Err fault)
      → TellsRuled plan true book before now last_before last_now (Err (of_rules fault))
  rules_stop before now last_before last_now (gen_fault.Journal fault) told = (ap (λ (q : Result Book GenFault). on q) told.0, told.1)
  rules_stop before now last_before last_now (gen_fault.BadTerm line) told = (ap (λ (q : Result Book GenFault). on q) told.0, told.1)
  rules_stop before now last_before last_now (gen_fault.PatternRefused line) told = record { is_asked = refl; rule = told }
  rules_stop before now last_before last_now (gen_fault.TooMany count limit) told = (ap (λ (q : Result Book GenFault). on q) told.0, told.1)
  rules_stop before now last_before last_now gen_fault.Memory told = told

  pub unruled : (before now : ℕ) (last_before last_now : Option (List ℕ)) (r : Report)
      → Tells plan.day.0 plan.asked.now.words before now last_before last_now (on (Ok book)) Never r
      → TellsRuled plan false book before now last_before last_now r
  unruled before now last_before last_now r told =
      refused_so plan.day.0 plan.asked.now.words before now last_before last_now (on (Ok book)) Never
      (λ (line : ℕ). RefusesRule false plan.day.0 plan.items.now line before now last_now) r (λ line never. absurd never) told

  -- as it is asked
  pub ruled_as : (auto : Bool) (before now : ℕ) (last_before last_now : Option (List ℕ)) (r : Report) → plan.asked.now.options.auto ≡ auto
      → TellsRuled plan auto book before now last_before last_now r
      → TellsRuled plan plan.asked.now.options.auto book before now last_before last_now r
  ruled_as auto before now last_before last_now r is told =
      subst (λ (a : Bool). TellsRuled plan a book before now last_before last_now r) (sym is) told

-- ---- with a forecast before

no_rule : (excess : Option Excess) (made : Result Book Fault) (line : ℕ) → unless_too_many excess made ≡ Err (gen_fault.PatternRefused line) → ⊥
no_rule (Some excess) made line is = cc
no_rule None (Ok made) line is = cc
no_rule None (Err fault) line is = cc

module _ (plan : Plan) (book : Book) (before now : ℕ) (last_before last_now : Option (List ℕ)) where
  abbrev after : Result Book GenFault → Report
  after made =
      on_made plan.asked.now.options.budget plan.asked.now.options plan.day.0 plan.items.now (terms_in plan)
      (then_rules plan.asked.now.options.auto plan.day.0 plan.items.now made)

  pub forecast_tells : (forecast : Option Period) (made : Book) (r : Report)
      → with_forecast forecast (given_in plan) plan.day.0 plan.items.now book ≡ Ok made
      → TellsRuled plan plan.asked.now.options.auto made before now last_before last_now r
      → TellsPlanned plan forecast book before now last_before last_now r
  forecast_tells forecast made r is told =
      defined_so plan.day.0 plan.asked.now.words before now last_before last_now (after (Ok made))
      (after (with_forecast forecast (given_in plan) plan.day.0 plan.items.now book))
      (λ (line : ℕ). RefusesLater forecast plan.asked.now.options.auto (given_in plan) plan.day.0 plan.items.now book line before now last_now) r
      (ap (λ (q : Result Book GenFault). after q) (sym is))
      (refused_so plan.day.0 plan.asked.now.words before now last_before last_now (after (Ok made))
      (λ (line : ℕ). RefusesRule plan.asked.now.options.auto plan.day.0 plan.items.now line before now last_now)
      (λ (line : ℕ). RefusesLater forecast plan.asked.now.options.auto (given_in plan) plan.day.0 plan.items.now book line before now last_now) r
      (λ line rule. record { made = made; is_made = is; rule = rule }) told)

-- the forecast of a window
pub window_forecast : (plan : Plan) (asked : Period) (window : Span) (book : Book) (made : Result Book GenFault)
    → window ≡ window_of asked (given_in plan) book.txns plan.day.0 → forecast_of plan.items.now book.txns window ≡ made
    → with_forecast (Some asked) (given_in plan) plan.day.0 plan.items.now book ≡ made
window_forecast plan asked window book made is told =
    ap (λ (days : Span). forecast_of plan.items.now book.txns days) (sym is) ∙ told

module _ (plan : Plan) (asked : Period) (window : Span) (book : Book) (count : ℕ) (last : Option (List ℕ)) where
  stopped : (fault : GenFault) → window ≡ window_of asked (given_in plan) book.txns plan.day.0
      → forecast_of plan.items.now book.txns window ≡ Err fault
      → on_made plan.asked.now.options.budget plan.asked.now.options plan.day.0 plan.items.now (terms_in plan)
      (planned_book (Some asked) plan.asked.now.options.auto (given_in plan) plan.day.0 plan.items.now book) ≡ Err (plan_fault.Generated fault)
  stopped fault is told =
      ap (λ (q : Result Book GenFault). after plan book count count last last q) (window_forecast plan asked window book (Err fault) is told)

  pub forecast_stops : (fault : GenFault) → window ≡ window_of asked (given_in plan) book.txns plan.day.0
      → IfSome (cause_of fault) (λ f. forecast_of plan.items.now book.txns window ≡ Err f)
      → TellsPlanned plan (Some asked) book count count last last (Err (of_rules fault))
  forecast_stops (gen_fault.Journal fault) is told = (stopped (gen_fault.Journal fault) is told, record { count = refl; told = refl })
  forecast_stops (gen_fault.BadTerm line) is told = (stopped (gen_fault.BadTerm line) is told, record { count = refl; told = refl })
  forecast_stops (gen_fault.PatternRefused line) is told =
      absurd (no_rule (excess_of (made_of window plan.items.now)) (judged (book.txns ++ made_by_day window plan.items.now)) line told)
  forecast_stops (gen_fault.TooMany n limit) is told = (stopped (gen_fault.TooMany n limit) is told, record { count = refl; told = refl })
  forecast_stops gen_fault.Memory is told = record { count = refl; told = refl }

-- as it is asked
pub planned_as : (plan : Plan) (book : Book) (forecast : Option Period) (before now : ℕ) (last_before last_now : Option (List ℕ)) (r : Report)
    → plan.asked.now.options.forecast ≡ forecast → TellsPlanned plan forecast book before now last_before last_now r
    → TellsPlanned plan plan.asked.now.options.forecast book before now last_before last_now r
planned_as plan book forecast before now last_before last_now r is told =
    subst (λ (f : Option Period). TellsPlanned plan f book before now last_before last_now r) (sym is) told

pub some_period : (o : Option Period) (period : Period) → o ≡ Some period → IfSome o IsPeriod → IsPeriod period
some_period o period is all = subst (λ (q : Option Period). IfSome q IsPeriod) is all

-- ---- over a text

pub planned_answers : (plan : Plan) (book : Book) (before now : ℕ) (last_before last_now : Option (List ℕ)) (r : Report)
    → terms_of plan.day.0 plan.asked.now.words ≡ Ok (terms_in plan)
    → TellsPlanned plan plan.asked.now.options.forecast book before now last_before last_now r
    → Answers plan.asked.now plan.day.0 plan.items.now book before now last_before last_now r
planned_answers plan book before now last_before last_now r read told =
    let asked = plan.asked.now in
    let day = plan.day.0 in
    let items = plan.items.now in
    let made = answer_by asked.options day items book (Ok (terms_in plan)) in
    defined_so day asked.words before now last_before last_now made (answer_over asked day items book)
    (λ (line : ℕ). RefusesLast asked day items book line before now last_now) r
    (sym (read_as asked day items book (Ok (terms_in plan)) read))
    (refused_so day asked.words before now last_before last_now made
    (λ (line : ℕ). RefusesLater asked.options.forecast asked.options.auto (given_in plan) day items book line before now last_now)
    (λ (line : ℕ). RefusesLast asked day items book line before now last_now) r
    (λ line rule. record { terms = terms_in plan; read = read; rule = rule }) told)

module _ (asked : Asked) (day : ℕ) (items : List Placed) (book : Book) (before now : ℕ) (last_before last_now : Option (List ℕ)) where
  -- words of which no query is made
  pub no_query : (fault : QueryFault) → Makes day asked.words before now last_before last_now (Err fault)
      → Answers asked day items book before now last_before last_now (Err (of_words (of_query fault)))
  no_query (query_fault.BadTerm word) told = (read_as asked day items book (Err word) told.0, told.1)
  no_query (query_fault.PatternRefused word) told = told
  no_query query_fault.Memory told = told

  -- where nothing of rules is asked for
  pub plain_answers : (r : Report) → asks_rules asked.options ≡ false
      → Tells day asked.words before now last_before last_now (widened (plain.answer_over asked day items book)) Never r
      → Answers asked day items book before now last_before last_now r
  plain_answers r is told =
      defined_so day asked.words before now last_before last_now (widened (plain.answer_over asked day items book)) (answer_over asked day items book)
      (λ (line : ℕ). RefusesLast asked day items book line before now last_now) r
      (sym (plain_reports asked day items book is))
      (refused_so day asked.words before now last_before last_now (widened (plain.answer_over asked day items book)) Never
      (λ (line : ℕ). RefusesLast asked day items book line before now last_now) r (λ line never. absurd never) told)

-- ---- budgets

pub goals_stop : (m : Matter) (columns : List Span) (goals : Result Book GenFault) (fault : GenFault)
    → IfSome (cause_of fault) (λ f. goals ≡ Err f) → IfSome (plan_cause (of_rules fault)) (λ f. beside m columns goals ≡ Err f)
goals_stop m columns goals (gen_fault.Journal fault) told = ap (λ (q : Result Book GenFault). beside m columns q) told
goals_stop m columns goals (gen_fault.BadTerm line) told = ap (λ (q : Result Book GenFault). beside m columns q) told
goals_stop m columns goals (gen_fault.PatternRefused line) told = ap (λ (q : Result Book GenFault). beside m columns q) told
goals_stop m columns goals (gen_fault.TooMany count limit) told = ap (λ (q : Result Book GenFault). beside m columns q) told
goals_stop m columns goals gen_fault.Memory told = tt

pub refused_budget : (fault : ReportFault) (made : Result (List ℕ) ReportFault) → IfSome (cause fault) (λ f. made ≡ Err f)
    → IfSome (plan_cause (of_words (of_report fault))) (λ f. as_report made ≡ Err f)
refused_budget (report_fault.Range symbol) made told = ap (λ (q : Result (List ℕ) ReportFault). as_report q) told
refused_budget (report_fault.TooWide columns limit) made told = ap (λ (q : Result (List ℕ) ReportFault). as_report q) told
refused_budget report_fault.Memory made told = tt

-- an interval that reads has a unit
pub some_interval : (own given : Options) → own ≡ given → IsPeriod given.bounds → IfSome own.bounds.interval (λ interval. 1 ≤ interval.n)
some_interval own given is period = subst (λ (o : Options). IfSome o.bounds.interval (λ interval. 1 ≤ interval.n)) (sym is) period.2
