-- What contracts see of finders.
use Rattle.std.specs.Prelude.{◌≡◌, ℕ, List, Some, map, slice_index_or}
use Rattle.regex.specs.Patterns.{Re}
use Rattle.regex.specs.Strings.{matcher_pattern}
use Rattle.query_terms.specs.Patterns.{Known, re_of}
use Rattle.query_terms.specs.declared.finding.Finder.{Finder}
use Rattle.query_terms.specs.declared.finding.Sought.{Sought}

abbrev pub one_known : Sought → List ℕ × Re
one_known s = (s.source.now, matcher_pattern s.matcher)

abbrev pub all_known : List Sought → Known
all_known sought = map one_known sought

-- regexes by their sources
abbrev pub known_in : Finder → Known
known_in finder = all_known finder.sought.items

-- the first of a source stands at that place
abbrev pub IsFirstOf : List ℕ → List Sought → ℕ → Type 0
IsFirstOf source sought i = (d : Sought) → re_of (all_known sought) source ≡ Some (one_known (slice_index_or sought i d)).1
