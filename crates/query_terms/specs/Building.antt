-- How regexes are built for sources, and what is told where one is refused.
use Rattle.std.specs.Prelude.{◌≡◌, ◌⊎◌, ◌++◌, ◌≤◌, ℕ, List, [], ◌∷◌, map, Option, Some, Result, Ok, Err}
use Rattle.std.specs.List.{All}
use Rattle.hl_base.specs.Causes.{Rose}
use Rattle.regex.specs.Strings.{regex_source, regex_config, IsReadFromSource}
use Rattle.regex.specs.declared.string.regex.Regex.{Regex}
use Rattle.query_terms.specs.Making.{caseless, Stays}
use Rattle.query_terms.specs.declared.faults.MakeFault.{MakeFault}
use Rattle.query_terms.specs.declared.faults.MakeFault.TheVariants as make_fault

-- it was read with case ignored
pub record IsCaseless (regex : Regex) : Type 0 where
  pub config : regex_config regex ≡ caseless
  pub read : IsReadFromSource regex

-- the regexes are those of the sources, in order
pub record AreBuilt (sources : List (List ℕ)) (regexes : List Regex) : Type 0 where
  pub named : map regex_source regexes ≡ sources
  pub caseless : All IsCaseless regexes

-- regexes of these sources came behind others
abbrev pub Grows : List (List ℕ) → List Regex → List Regex → Type 0
Grows more old new = (sources : List (List ℕ)) → AreBuilt sources old → AreBuilt (sources ++ more) new

abbrev pub IsOneOf : {X : Type 0} → X → List X → Type 0
IsOneOf x [] = ⊥
IsOneOf x (y ∷ ys) = (y ≡ x) ⊎ IsOneOf x ys

-- the maker refused one of these sources: its count rose, and it tells that source
pub record IsRefusalOf (sources : List (List ℕ)) (before now : ℕ) (last_now : Option (List ℕ)) : Type 0 where
  pub later : before ≤ now
  pub rose : Rose before now
  pub source : List ℕ
  pub among : IsOneOf source sources
  pub told : last_now ≡ Some source

-- what the maker tells after the regexes of some sources were asked of it
abbrev pub TellsOf : {T : Type 0} → List (List ℕ) → ℕ → ℕ → Option (List ℕ) → Option (List ℕ) → Result T MakeFault → Type 0
TellsOf sources before now last_before last_now (Ok x) = Stays before now last_before last_now
TellsOf sources before now last_before last_now (Err make_fault.Memory) = Stays before now last_before last_now
TellsOf sources before now last_before last_now (Err make_fault.Refused) = IsRefusalOf sources before now last_now
