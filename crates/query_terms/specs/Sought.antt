-- Regexes, as contracts of searches see them.
use Rattle.std.specs.Prelude.{ℕ, List, map}
use Rattle.regex.specs.Patterns.{Re}
use Rattle.regex.specs.Strings.{regex_pattern, regex_source}
use Rattle.regex.specs.declared.string.regex.Regex.{Regex}
use Rattle.query_terms.specs.Patterns.{Known}

abbrev pub source_and_re : Regex → List ℕ × Re
source_and_re regex = (regex_source regex, regex_pattern regex)

-- regexes by their sources
abbrev pub known_of : List Regex → Known
known_of regexes = map source_and_re regexes
