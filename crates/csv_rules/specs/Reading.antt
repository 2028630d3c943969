-- Which rules a text is, or why it is none.
use Rattle.std.specs.Prelude.{◌≡◌, ◌+◌, ◌++◌, ℕ, List, [], ◌∷◌, length, Option, Some, None, Result, Ok, Err}
use Rattle.entry_reader.specs.Lines.{contents_of}
use Rattle.regex.specs.declared.string.regex.Regex.{Regex}
use Rattle.query_terms.specs.Making.{Stays}
use Rattle.csv_rules.specs.Building.{AreBuilt, Grows, IsRefusalOf, form_sources, progress_sources, sheet_sources}
use Rattle.csv_rules.specs.Drafts.{Progress, start, put, finished}
use Rattle.csv_rules.specs.Forms.{form_of}
use Rattle.csv_rules.specs.declared.faults.RulesFault.{RulesFault}
use Rattle.csv_rules.specs.declared.faults.RulesFault.TheVariants as rules_fault
use Rattle.csv_rules.specs.declared.forms.Form.{Form}
use Rattle.csv_rules.specs.declared.kinds.Sheet.{Sheet}
use Rattle.csv_rules.specs.declared.reading.Rules.{Rules}

-- what is made of a line's form, or the number of the line that has none
abbrev pub or_line : {A : Type 0} → ℕ → Option Form → (Form → Result A ℕ) → Result A ℕ
or_line line (Some form) made = made form
or_line line None made = Err line

-- What some lines say behind others, of which the first has a number; or the number of the first that isn't of its form.
abbrev pub read_from : Progress → ℕ → List (List ℕ) → Result Progress ℕ
read_from p line [] = Ok p
read_from p line (l ∷ ls) = or_line line (form_of p.stage l) (λ form. read_from (put p form) (line + 1) ls)

abbrev pub ended : ℕ → Option Sheet → Result Sheet ℕ
ended line (Some sheet) = Ok sheet
ended line None = Err line

abbrev pub sheet_at : ℕ → Result Progress ℕ → Result Sheet ℕ
sheet_at line (Ok p) = ended line (finished p)
sheet_at line (Err bad) = Err bad

-- what some lines say
abbrev pub sheet_in : List (List ℕ) → Result Sheet ℕ
sheet_in lines = sheet_at (length lines + 1) (read_from start 1 lines)

-- what the lines of a text say, or the number of the first that isn't of its form
abbrev pub rules_of : List ℕ → Result Sheet ℕ
rules_of text = sheet_in (contents_of text)

-- it says what the text says, and has the regexes of its patterns
pub record IsRulesOf (text : List ℕ) (rules : Rules) : Type 0 where
  pub read : rules_of text ≡ Ok rules.sheet
  pub built : AreBuilt (sheet_sources rules.sheet) rules.regexes.items

-- So many lines of a text stand before a line: they are of their forms and say so much, and their patterns were built.
pub record AreBefore (text : List ℕ) (line : ℕ) (later : List (List ℕ)) (progress : Progress) : Type 0 where
  pub earlier : List (List ℕ)
  pub place : contents_of text ≡ earlier ++ later
  pub number : line ≡ length earlier + 1
  pub read : read_from start 1 earlier ≡ Ok progress
  pub regexes : List Regex
  pub built : AreBuilt (progress_sources progress) regexes

-- It isn't of its form, or it stands behind a text that isn't finished; the lines before it aren't refused.
pub record IsBadLine (text : List ℕ) (line : ℕ) : Type 0 where
  pub is : rules_of text ≡ Err line
  pub later : List (List ℕ)
  pub progress : Progress
  pub before : AreBefore text line later progress

-- It is of its form, and the maker refused its pattern; the lines before it aren't refused.
pub record IsRefusedLine (text : List ℕ) (line : ℕ) (before now : ℕ) (last_now : Option (List ℕ)) : Type 0 where
  pub content : List ℕ
  pub later : List (List ℕ)
  pub progress : Progress
  pub earlier : AreBefore text line (content ∷ later) progress
  pub form : Form
  pub said : form_of progress.stage content ≡ Some form
  pub refusal : IsRefusalOf (form_sources form) before now last_now

-- The rules that a text is; or the first line that isn't of its form, or whose pattern the maker refused; or want of memory. What the maker tells stays but where it refused a pattern.
abbrev pub Reads : List ℕ → ℕ → ℕ → Option (List ℕ) → Option (List ℕ) → Result Rules RulesFault → Type 0
Reads text before now last_before last_now (Ok rules) = IsRulesOf text rules × Stays before now last_before last_now
Reads text before now last_before last_now (Err rules_fault.Memory) = Stays before now last_before last_now
Reads text before now last_before last_now (Err (rules_fault.BadRule line)) = IsBadLine text line × Stays before now last_before last_now
Reads text before now last_before last_now (Err (rules_fault.PatternRefused line)) = IsRefusedLine text line before now last_now

-- a line was added: it is of a form, the regex of its pattern was built, and what it says came to the rest
pub record IsTaken (content : List ℕ) (old new : Progress) (regexes_old regexes_new : List Regex) : Type 0 where
  pub form : Form
  pub said : form_of old.stage content ≡ Some form
  pub grows : Grows (form_sources form) regexes_old regexes_new
  pub added : new ≡ put old form

-- a line is of a form, and the maker refused its pattern
pub record IsRefusedAt (content : List ℕ) (old : Progress) (before now : ℕ) (last_now : Option (List ℕ)) : Type 0 where
  pub form : Form
  pub said : form_of old.stage content ≡ Some form
  pub refusal : IsRefusalOf (form_sources form) before now last_now

-- what becomes of the next line
abbrev pub TakesLine : {T : Type 0} → ℕ → List ℕ → Progress → Progress → List Regex → List Regex → ℕ → ℕ → Option (List ℕ) → Option (List ℕ) → Result T RulesFault → Type 0
TakesLine line content old new regexes_old regexes_new before now last_before last_now (Ok x) =
    IsTaken content old new regexes_old regexes_new × Stays before now last_before last_now
TakesLine line content old new regexes_old regexes_new before now last_before last_now (Err rules_fault.Memory) = Stays before now last_before last_now
TakesLine line content old new regexes_old regexes_new before now last_before last_now (Err (rules_fault.BadRule bad)) =
    (bad ≡ line) × (form_of old.stage content ≡ None) × Stays before now last_before last_now
TakesLine line content old new regexes_old regexes_new before now last_before last_now (Err (rules_fault.PatternRefused refused)) =
    (refused ≡ line) × IsRefusedAt content old before now last_now
