-- What a call answers of a report, and what the maker of its patterns tells.
use Rattle.std.specs.Prelude.{◌≡◌, ℕ, Bool, true, List, Option, Ok, Err}
use Rattle.hl_time.specs.declared.spans.Period.{Period}
use Rattle.book.specs.declared.item.Book.{Book}
use Rattle.book.specs.declared.item.Placed.{Placed}
use Rattle.generated.specs.Rules.{IsRefusedRule, autos_of}
use Rattle.generated.specs.declared.fault.GenFault.{GenFault}
use Rattle.generated.specs.declared.fault.GenFault.TheVariants as gen_fault
use Rattle.query.specs.Made.{IsPatternRefused}
use Rattle.query.specs.Matching.{dates_in}
use Rattle.query_terms.specs.Making.{Stays}
use Rattle.query_terms.specs.Reading.{terms_of}
use Rattle.query_terms.specs.declared.kinds.Term.{Term}
use Rattle.report_commands.specs.declared.asked.Asked.{Asked}
use Rattle.report_commands.specs.declared.fault.WordsFault.{WordsFault}
use Rattle.report_commands.specs.declared.fault.WordsFault.TheVariants as words_fault
use Rattle.plan_commands.specs.Books.{planned_book, with_forecast, with_rules}
use Rattle.plan_commands.specs.Bounds.{given_bounds}
use Rattle.plan_commands.specs.Plans.{given_in, terms_in}
use Rattle.plan_commands.specs.Reports.{Report, answer_over, on_made}
use Rattle.plan_commands.specs.declared.fault.PlanFault.TheVariants as plan_fault
use Rattle.plan_commands.specs.declared.plan.Plan.{Plan}

-- What is told of some words on a day, where the report is this one, and what the maker told before and tells now. A pattern
-- of a word may be refused, or that of a rule, where that is said; the maker's count rises then, and rises for nothing else;
-- want of memory says nothing, and is told by itself.
module _ (day : ℕ) (words : List (List ℕ)) (before now : ℕ) (last_before last_now : Option (List ℕ)) (defined : Report) where
  abbrev pub TellsWords : WordsFault → Type 0
  TellsWords (words_fault.PatternRefused word) = IsPatternRefused day words word before now last_now
  TellsWords words_fault.Memory = ⊥
  TellsWords fault = (defined ≡ Err (plan_fault.Words fault)) × Stays before now last_before last_now

  abbrev pub TellsRules : (ℕ → Type 0) → GenFault → Type 0
  TellsRules Refused (gen_fault.PatternRefused line) = Refused line
  TellsRules Refused gen_fault.Memory = ⊥
  TellsRules Refused fault = (defined ≡ Err (plan_fault.Generated fault)) × Stays before now last_before last_now

  abbrev pub Tells : (ℕ → Type 0) → Report → Type 0
  Tells Refused (Ok text) = (defined ≡ Ok text) × Stays before now last_before last_now
  Tells Refused (Err (plan_fault.Words fault)) = TellsWords fault
  Tells Refused (Err (plan_fault.Generated fault)) = TellsRules Refused fault
  Tells Refused (Err plan_fault.Memory) = Stays before now last_before last_now

-- no pattern of a rule is refused
abbrev pub Never : ℕ → Type 0
Never line = ⊥

-- automated rules are asked for, those before the one at this line are read, and the maker refused a pattern of it
pub record RefusesRule (auto : Bool) (day : ℕ) (items : List Placed) (line before now : ℕ) (last_now : Option (List ℕ)) : Type 0 where
  pub is_asked : auto ≡ true
  pub rule : IsRefusedRule day (autos_of items) line before now last_now

-- and the forecast is made before that, if one is asked for
pub record RefusesLater (forecast : Option Period) (auto : Bool) (given : Period) (day : ℕ) (items : List Placed) (book : Book)
    (line before now : ℕ) (last_now : Option (List ℕ)) : Type 0 where
  pub made : Book
  pub is_made : with_forecast forecast given day items book ≡ Ok made
  pub rule : RefusesRule auto day items line before now last_now

-- and every word of the query is a term
pub record RefusesLast (asked : Asked) (day : ℕ) (items : List Placed) (book : Book)
    (line before now : ℕ) (last_now : Option (List ℕ)) : Type 0 where
  pub terms : List Term
  pub read : terms_of day asked.words ≡ Ok terms
  pub rule : RefusesLater asked.options.forecast asked.options.auto (given_bounds asked.options (dates_in terms)) day items book line before now last_now

-- what is told of the report over a book with what automated rules add, where they are asked for
abbrev pub TellsRuled : Plan → Bool → Book → ℕ → ℕ → Option (List ℕ) → Option (List ℕ) → Report → Type 0
TellsRuled plan auto book before now last_before last_now report =
    Tells plan.day.0 plan.asked.now.words before now last_before last_now
    (on_made plan.asked.now.options.budget plan.asked.now.options plan.day.0 plan.items.now (terms_in plan)
    (with_rules auto plan.day.0 plan.items.now book))
    (λ line. RefusesRule auto plan.day.0 plan.items.now line before now last_now) report

-- and with the forecast before, where one is asked for
abbrev pub TellsPlanned : Plan → Option Period → Book → ℕ → ℕ → Option (List ℕ) → Option (List ℕ) → Report → Type 0
TellsPlanned plan forecast book before now last_before last_now report =
    Tells plan.day.0 plan.asked.now.words before now last_before last_now
    (on_made plan.asked.now.options.budget plan.asked.now.options plan.day.0 plan.items.now (terms_in plan)
    (planned_book forecast plan.asked.now.options.auto (given_in plan) plan.day.0 plan.items.now book))
    (λ line. RefusesLater forecast plan.asked.now.options.auto (given_in plan) plan.day.0 plan.items.now book line before now last_now) report

-- What is answered over the items of a text and their book.
abbrev pub Answers : Asked → ℕ → List Placed → Book → ℕ → ℕ → Option (List ℕ) → Option (List ℕ) → Report → Type 0
Answers asked day items book before now last_before last_now report =
    Tells day asked.words before now last_before last_now (answer_over asked day items book)
    (λ line. RefusesLast asked day items book line before now last_now) report
