-- Words whose patterns have a special character, so that a regex is built for them.
use Rattle.std.specs.Prelude.{◌≡◌, ℕ, ◌≤◌, Bool, false, true, List, [], ◌∷◌, filter, Option, Some, None}
use Rattle.hl_base.specs.Causes.{Rose}
use Rattle.query.specs.Building.{IsOneOf}
use Rattle.query_terms.specs.Making.{Stays}
use Rattle.query_terms.specs.Reading.{kind_sources, term_of}
use Rattle.query_terms.specs.declared.kinds.Term.{Term}
use Rattle.report_commands.specs.declared.fault.WordsFault.{WordsFault}
use Rattle.report_commands.specs.declared.fault.WordsFault.TheVariants as words_fault

abbrev pub has_some : List (List ℕ) → Bool
has_some [] = false
has_some (source ∷ sources) = true

-- the patterns of a word's term, if it reads as one
abbrev pub sources_in : Option Term → List (List ℕ)
sources_in None = []
sources_in (Some term) = kind_sources term.kind

abbrev pub has_pattern : ℕ → List ℕ → Bool
has_pattern day word = has_some (sources_in (term_of day word))

-- those of some words that have one
abbrev pub pattern_words : ℕ → List (List ℕ) → List (List ℕ)
pattern_words day those = filter (has_pattern day) those

-- The maker refused a pattern of this word: its count rose, and it tells that pattern.
pub record Blames (day : ℕ) (word : List ℕ) (before now : ℕ) (last_now : Option (List ℕ)) : Type 0 where
  pub later : before ≤ now
  pub rose : Rose before now
  pub source : List ℕ
  pub among : IsOneOf source (sources_in (term_of day word))
  pub told : last_now ≡ Some source

-- what the maker tells stays, but where a word's pattern is refused
abbrev pub TellsFault : ℕ → ℕ → ℕ → Option (List ℕ) → Option (List ℕ) → WordsFault → Type 0
TellsFault day before now last_before last_now (words_fault.PatternRefused word) = Blames day word before now last_now
TellsFault day before now last_before last_now fault = Stays before now last_before last_now
