-- What the words of a report give over a journal's text.
use Rattle.std.specs.Prelude.{◌≡◌, ℕ, List, [], ◌∷◌, ◌++◌, Option, None, Result, Ok, Err, if◌then◌else◌}
use Rattle.book.specs.declared.fault.Fault.{Fault}
use Rattle.book.specs.declared.item.Book.{Book}
use Rattle.book.specs.declared.item.Placed.{Placed}
use Rattle.book.specs.declared.rules.AutoRule.{AutoRule}
use Rattle.journal_reader.specs.Items.{items_in}
use Rattle.balancing.specs.Load.{load}
use Rattle.generated.specs.Rules.{autos_of}
use Rattle.generated.specs.declared.fault.GenFault.TheVariants as gen_fault
use Rattle.query.specs.Made.{IsPatternRefused}
use Rattle.query.specs.Matching.{dates_in}
use Rattle.query_terms.specs.Making.{Stays}
use Rattle.query_terms.specs.Reading.{terms_of}
use Rattle.query_terms.specs.declared.kinds.Term.{Term}
use Rattle.report_commands.specs.declared.asked.Asked.{Asked}
use Rattle.report_commands.specs.declared.fault.WordsFault.{WordsFault}
use Rattle.report_commands.specs.declared.fault.WordsFault.TheVariants as words_fault
use Rattle.report_commands.specs.Patterns.{has_some, pattern_words}
use Rattle.plan_commands.specs.Books.{with_forecast}
use Rattle.plan_commands.specs.Bounds.{given_bounds}
use Rattle.plan_commands.specs.Commands.{asked_of}
use Rattle.plan_commands.specs.Reports.{Report, report_over}
use Rattle.plan_commands.specs.Telling.{RefusesLast}
use Rattle.plan_commands.specs.declared.fault.PlanFault.TheVariants as plan_fault
use Rattle.desk.specs.declared.request.Request.{Request}
use Rattle.desk.specs.declared.request.Request.TheVariants as request
use Rattle.desk.specs.declared.reply.Reply.{Reply}
use Rattle.desk.specs.declared.reply.Reply.TheVariants as reply

-- the report of a text that loads, as each journal's does
abbrev pub shown : Result Report Fault → Report
shown (Ok report) = report
shown (Err fault) = Ok []

abbrev pub asked_over : ℕ → Option ℕ → List ℕ → Result Asked WordsFault → Report
asked_over day year text (Ok asked) = shown (report_over asked day year text)
asked_over day year text (Err fault) = Err (plan_fault.Words fault)

-- The output of the words over a text that loads, on a day, or why there is none.
abbrev pub words_over : ℕ → Option ℕ → List ℕ → List (List ℕ) → Report
words_over day year text words = asked_over day year text (asked_of day words)

-- ---- patterns that may be refused by who builds them

-- the words whose patterns may be: all words have to read as terms first
abbrev pub refusable_words_by : ℕ → List (List ℕ) → Result (List Term) (List ℕ) → List (List ℕ)
refusable_words_by day words (Ok terms) = pattern_words day words
refusable_words_by day words (Err word) = []

abbrev pub refusable_words_in : ℕ → Result Asked WordsFault → List (List ℕ)
refusable_words_in day (Ok asked) = refusable_words_by day asked.words (terms_of day asked.words)
refusable_words_in day (Err fault) = []

-- Those of the words of a report.
abbrev pub refusable_words : ℕ → List (List ℕ) → List (List ℕ)
refusable_words day words = refusable_words_in day (asked_of day words)

-- the lines of what is made, if it is
abbrev pub if_made : {A E : Type 0} → Result A E → (A → List ℕ) → List ℕ
if_made (Ok made) lines = lines made
if_made (Err fault) lines = []

-- the line of a rule of which a word has a pattern
abbrev pub pattern_line : ℕ → AutoRule → List ℕ
pattern_line day rule = if has_some (pattern_words day rule.words) then rule.line ∷ [] else []

-- the lines of those of some rules that have one, before the first of which a word is no term
abbrev pub rule_lines : ℕ → List AutoRule → List ℕ
rule_lines day [] = []
rule_lines day (rule ∷ rules) = if_made (terms_of day rule.words) (λ terms. pattern_line day rule ++ rule_lines day rules)

-- where automated rules are asked for, the lines of those of a text, behind a forecast that is made if one is asked for
abbrev pub lines_by : Asked → ℕ → List Placed → Book → List Term → List ℕ
lines_by asked day items book terms =
    if asked.options.auto then
    if_made (with_forecast asked.options.forecast (given_bounds asked.options (dates_in terms)) day items book)
    (λ made. rule_lines day (autos_of items))
    else []

-- The lines of the rules of a text whose patterns may be refused for a report of these words.
abbrev pub refusable_lines : ℕ → Option ℕ → List ℕ → List (List ℕ) → List ℕ
refusable_lines day year text words =
    if_made (asked_of day words) (λ asked.
    if_made (items_in year text) (λ items.
    if_made (load items) (λ book.
    if_made (terms_of day asked.words) (λ terms. lines_by asked day items book terms))))

-- ---- what is answered

-- the words ask for a report, and a pattern of this word of its query was refused
pub record IsRefusedPattern (day : ℕ) (words : List (List ℕ)) (word : List ℕ) (before now : ℕ)
    (last_now : Option (List ℕ)) : Type 0 where
  pub asked : Asked
  pub is : asked_of day words ≡ Ok asked
  pub refused : IsPatternRefused day asked.words word before now last_now

-- the words ask for a report with what automated rules add, and a pattern of the text's rule at this line was refused
pub record IsRefusedRule (day : ℕ) (year : Option ℕ) (text : List ℕ) (words : List (List ℕ)) (line before now : ℕ)
    (last_now : Option (List ℕ)) : Type 0 where
  pub asked : Asked
  pub is : asked_of day words ≡ Ok asked
  pub items : List Placed
  pub read : items_in year text ≡ Ok items
  pub book : Book
  pub made : load items ≡ Ok book
  pub refused : RefusesLast asked day items book line before now last_now

-- The report of the words, or why there is none; or a pattern of a word or of a rule was refused, or memory ran out. What the
-- maker tells stays but where it refused a pattern.
abbrev pub Reports : ℕ → Option ℕ → List ℕ → List (List ℕ) → ℕ → ℕ → Option (List ℕ) → Option (List ℕ)
    → Report → Type 0
Reports day year text words before now last_before last_now (Err (plan_fault.Words (words_fault.PatternRefused word))) =
    IsRefusedPattern day words word before now last_now
Reports day year text words before now last_before last_now (Err (plan_fault.Generated (gen_fault.PatternRefused line))) =
    IsRefusedRule day year text words line before now last_now
Reports day year text words before now last_before last_now (Err plan_fault.Memory) = Stays before now last_before last_now
Reports day year text words before now last_before last_now report =
    (words_over day year text words ≡ report) × Stays before now last_before last_now

-- where the reply is that a pattern of an automated rule was refused, it is a pattern of the text's rule at the line that is told
abbrev pub TellsRuleOf : List (List ℕ) → List ℕ → ℕ → ℕ → ℕ → Option (List ℕ) → Reply → Type 0
TellsRuleOf words text day before now last_now (reply.Words (plan_fault.Generated (gen_fault.PatternRefused line))) =
    IsRefusedRule day None text words line before now last_now
TellsRuleOf words text day before now last_now other = Unit {0}

-- Where the reply to a report is that a pattern of an automated rule was refused, the words ask for what automated rules add, those
-- before the one at this line are read, and the maker refused a pattern of that one as its last.
abbrev pub TellsRule : Request → List ℕ → ℕ → ℕ → ℕ → Option (List ℕ) → Reply → Type 0
TellsRule (request.Report words) text day before now last_now r = TellsRuleOf words text day before now last_now r
TellsRule other text day before now last_now r = Unit {0}
