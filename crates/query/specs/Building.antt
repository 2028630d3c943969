-- How the regexes of a query are built, and what is told where that fails.
use Rattle.std.specs.Prelude.{◌≡◌, ◌++◌, ℕ, List, ◌∷◌, Option, Some, Result, Ok, Err}
use Rattle.std.specs.List.{All}
use Rattle.regex.specs.declared.string.regex.Regex.{Regex}
pub use Rattle.query_terms.specs.Building.{AreBuilt, Grows, IsCaseless, IsOneOf, IsRefusalOf, TellsOf}
use Rattle.query_terms.specs.Making.{Stays}
use Rattle.query_terms.specs.Reading.{HasDays, term_of, terms_of, kind_sources, sources_of}
use Rattle.query.specs.declared.faults.QueryFault.{QueryFault}
use Rattle.query.specs.declared.faults.QueryFault.TheVariants as query_fault
use Rattle.query_terms.specs.declared.kinds.Term.{Term}

-- the bounds of all terms of days are days
abbrev pub AreDated : List Term → Type 0
AreDated terms = All (λ t. HasDays t.kind) terms

-- what the maker tells after the regexes of a word's term were asked of it
abbrev pub TellsWord : {T : Type 0} → List ℕ → List (List ℕ) → ℕ → ℕ → Option (List ℕ) → Option (List ℕ) → Result T QueryFault → Type 0
TellsWord word sources before now last_before last_now (Ok x) = Stays before now last_before last_now
TellsWord word sources before now last_before last_now (Err query_fault.Memory) = Stays before now last_before last_now
TellsWord word sources before now last_before last_now (Err (query_fault.BadTerm other)) = ⊥
TellsWord word sources before now last_before last_now (Err (query_fault.PatternRefused other)) = (other ≡ word) × IsRefusalOf sources before now last_now

-- The word is one of these. The words before it read as terms, and all regexes of these are built. It reads as a term itself,
-- and the maker refused a source of that term.
pub record IsRefusedWord (day : ℕ) (words : List (List ℕ)) (word : List ℕ) (before now : ℕ) (last_now : Option (List ℕ)) : Type 0 where
  pub earlier : List (List ℕ)
  pub later : List (List ℕ)
  pub place : words ≡ earlier ++ word ∷ later
  pub terms : List Term
  pub read_earlier : terms_of day earlier ≡ Ok terms
  pub regexes : List Regex
  pub built : AreBuilt (sources_of terms) regexes
  pub term : Term
  pub read : term_of day word ≡ Some term
  pub refusal : IsRefusalOf (kind_sources term.kind) before now last_now

-- the same for those of some words
abbrev pub TellsWords : {T : Type 0} → ℕ → List (List ℕ) → ℕ → ℕ → Option (List ℕ) → Option (List ℕ) → Result T QueryFault → Type 0
TellsWords day words before now last_before last_now (Ok x) = Stays before now last_before last_now
TellsWords day words before now last_before last_now (Err query_fault.Memory) = Stays before now last_before last_now
TellsWords day words before now last_before last_now (Err (query_fault.BadTerm other)) = ⊥
TellsWords day words before now last_before last_now (Err (query_fault.PatternRefused word)) = IsRefusedWord day words word before now last_now

-- why no terms were read
abbrev pub IsBad : Result (List Term) (List ℕ) → QueryFault → Type 0
IsBad read (query_fault.BadTerm word) = read ≡ Err word
IsBad read (query_fault.PatternRefused word) = ⊥
IsBad read query_fault.Memory = Unit {0}
