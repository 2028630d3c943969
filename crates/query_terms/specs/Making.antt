-- What a maker answers, and what it tells of refusals.
use Rattle.std.specs.Prelude.{◌≡◌, ◌≢◌, ◌⊎◌, ℕ, ◌+◌, ◌-◌, ◌^◌, ◌≤◌, min, Bool, true, List, Option, Some, Result, Ok, Err}
use Rattle.std.specs.List.{list_any}
use Rattle.std.specs.Str.{bytes_eq}
use Rattle.hl_base.specs.Causes.{Rose}
use Rattle.regex.specs.Failures.{IsRightKind}
use Rattle.regex.specs.Patterns.{default_config, Config}
use Rattle.regex.specs.Sources as sources
use Rattle.regex.specs.Strings.{regex_source, regex_config, IsReadFromSource}
use Rattle.regex.specs.declared.error.Error.{Error}
use Rattle.regex.specs.declared.error.Error.TheVariants as error
use Rattle.regex.specs.declared.string.regex.Regex.{Regex}
use Rattle.query_terms.specs.declared.faults.MakeFault.{MakeFault}
use Rattle.query_terms.specs.declared.faults.MakeFault.TheVariants as fault

-- the options of a pattern, of which case is ignored
abbrev pub caseless : Config
caseless = record default_config { flags = record (default_config.flags) { case_insensitive = true } }

-- the regex is that of the pattern, read with case ignored
pub record IsMadeOf (pattern : List ℕ) (regex : Regex) : Type 0 where
  pub source : regex_source regex ≡ pattern
  pub config : regex_config regex ≡ caseless
  pub read : IsReadFromSource regex

-- what a maker tells stays
pub record Stays (before now : ℕ) (last_before last_now : Option (List ℕ)) : Type 0 where
  pub count : now ≡ before
  pub told : last_now ≡ last_before

-- its count of refusals rose, and it tells this pattern as the last that it refused
pub record IsRefusal (before now : ℕ) (last_now : Option (List ℕ)) (pattern : List ℕ) : Type 0 where
  pub later : before ≤ now
  pub rose : Rose before now
  pub told : last_now ≡ Some pattern

-- what it tells changes only where it refused the pattern
abbrev pub TellsRefusal : {T : Type 0} → ℕ → ℕ → Option (List ℕ) → Option (List ℕ) → List ℕ → Result T MakeFault → Type 0
TellsRefusal before now last_before last_now pattern (Ok x) = Stays before now last_before last_now
TellsRefusal before now last_before last_now pattern (Err fault.Memory) = Stays before now last_before last_now
TellsRefusal before now last_before last_now pattern (Err fault.Refused) = IsRefusal before now last_now pattern

-- what a maker answers to an error of regex
abbrev pub fault_of : Error → MakeFault
fault_of error.OutOfMemory = fault.Memory
fault_of _ = fault.Refused

-- Regex has an error for the pattern, and it isn't want of memory: the grammar doesn't read the pattern, or it is nested too
-- deep, or it is a pattern that is too big when it is built. How big that is, regex says in no clause.
pub record IsRefusedByRegex (pattern : List ℕ) : Type 0 where
  pub given : Error
  pub no_memory : given ≢ error.OutOfMemory
  pub by_grammar : sources.IsRefusal caseless pattern given
  pub kind : IsRightKind caseless pattern given

-- the pattern is one of a list
abbrev pub is_listed : List (List ℕ) → List ℕ → Bool
is_listed patterns pattern = list_any (λ p. bytes_eq p pattern) patterns

-- a pattern of the list, or one that regex refuses
abbrev pub IsRefusable : List (List ℕ) → List ℕ → Type 0
IsRefusable patterns pattern = (is_listed patterns pattern ≡ true) ⊎ IsRefusedByRegex pattern

-- it refuses for this reason alone
abbrev pub RefusesFor : {T : Type 0} → Type 0 → Result T MakeFault → Type 0
RefusesFor Why (Err fault.Refused) = Why
RefusesFor Why (Err fault.Memory) = Unit {0}
RefusesFor Why (Ok x) = Unit {0}

-- one more, up to the last value of the counter
abbrev pub counted : ℕ → ℕ
counted before = min (before + 1) (2 ^ 64 - 1)

-- the count rises by one where a pattern is refused, and there alone
abbrev pub CountsFor : {T : Type 0} → ℕ → ℕ → Result T MakeFault → Type 0
CountsFor before now (Err fault.Refused) = now ≡ counted before
CountsFor before now (Err fault.Memory) = now ≡ before
CountsFor before now (Ok x) = now ≡ before
