-- Which query some words make, or why they make none.
use Rattle.std.specs.Prelude.{◌≡◌, ℕ, List, Option, Result, Ok, Err}
use Rattle.hl_time.specs.Periods.{IsPeriod}
use Rattle.query.specs.Building.{AreBuilt, IsRefusedWord}
use Rattle.query.specs.Matching.{dates_in}
use Rattle.query_terms.specs.Making.{Stays}
use Rattle.query_terms.specs.Reading.{terms_of, sources_of}
use Rattle.query.specs.declared.faults.QueryFault.{QueryFault}
use Rattle.query.specs.declared.faults.QueryFault.TheVariants as query_fault
use Rattle.query_terms.specs.declared.kinds.Term.{Term}
use Rattle.query.specs.declared.queries.Query.{Query}

-- its terms are those of the words, it has their regexes, and its common bounds of days are days
pub record IsQueryOf (day : ℕ) (words : List (List ℕ)) (query : Query) : Type 0 where
  pub read : terms_of day words ≡ Ok query.terms.items
  pub built : AreBuilt (sources_of query.terms.items) query.regexes.items
  pub days : IsPeriod (dates_in query.terms.items)

-- every word reads, and the maker refused a pattern of this one, the first that has one
pub record IsPatternRefused (day : ℕ) (words : List (List ℕ)) (word : List ℕ) (before now : ℕ) (last_now : Option (List ℕ)) : Type 0 where
  pub terms : List Term
  pub read : terms_of day words ≡ Ok terms
  pub refused : IsRefusedWord day words word before now last_now

-- The query of some words; or the first word that is no term; or, where every word reads, the first of which a pattern is
-- refused; or want of memory. What the maker tells stays but where a pattern is refused.
abbrev pub Makes : ℕ → List (List ℕ) → ℕ → ℕ → Option (List ℕ) → Option (List ℕ) → Result Query QueryFault → Type 0
Makes day words before now last_before last_now (Ok query) = IsQueryOf day words query × Stays before now last_before last_now
Makes day words before now last_before last_now (Err query_fault.Memory) = Stays before now last_before last_now
Makes day words before now last_before last_now (Err (query_fault.BadTerm word)) = (terms_of day words ≡ Err word) × Stays before now last_before last_now
Makes day words before now last_before last_now (Err (query_fault.PatternRefused word)) = IsPatternRefused day words word before now last_now
