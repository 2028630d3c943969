-- What is asked over the items of a text, whatever the book.
use Rattle.std.specs.Prelude.{◌≡◌, ℕ, List}
use Rattle.hl_time.specs.Calendar.{IsDay}
use Rattle.hl_time.specs.declared.spans.Period.{Period}
use Rattle.book.specs.Style.{style_of}
use Rattle.book.specs.Styles.{style_in}
use Rattle.prices.specs.Quotes.{quotes_in}
use Rattle.query.specs.Made.{IsQueryOf}
use Rattle.query.specs.Matching.{dates_in}
use Rattle.query.specs.OwnLetters.{own_in}
use Rattle.query_terms.specs.declared.kinds.Term.{Term}
use Rattle.report_options.specs.Options.{IsValid}
use Rattle.report_commands.specs.Matters.{letters_in}
use Rattle.plan_commands.specs.Bounds.{given_bounds}
use Rattle.plan_commands.specs.declared.plan.Plan.{Plan}

-- a day of the calendar, options that read, the query of the words, and the letters, the styles and the prices of the items
pub record IsPlan (plan : Plan) : Type 0 where
  pub day : IsDay plan.day.0
  pub valid : IsValid plan.asked.now.options
  pub query : IsQueryOf plan.day.0 plan.asked.now.words plan.query.now
  pub letters : (name : List ℕ) → own_in plan.types.now name ≡ letters_in plan.items.now name
  pub styles : (symbol : List ℕ) → style_in plan.styles.now symbol ≡ style_of plan.items.now symbol
  pub quotes : plan.prices.now ≡ quotes_in plan.items.now

abbrev pub terms_in : Plan → List Term
terms_in plan = plan.query.now.terms.items

-- the bounds that its report is given
abbrev pub given_in : Plan → Period
given_in plan = given_bounds plan.asked.now.options (dates_in (terms_in plan))
