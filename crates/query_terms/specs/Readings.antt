-- What the grammar of regexes reads in the sources of patterns.
use Rattle.std.specs.Prelude.{ℕ, List, chars, option_map}
use Rattle.std.specs.List.{flat_map}
use Rattle.std.specs.Option.{option_to_list}
use Rattle.regex.specs.Patterns.{Re}
use Rattle.regex_syntax.specs.Grammar.{read}
use Rattle.query_terms.specs.Making.{caseless}
use Rattle.query_terms.specs.Patterns.{Known}

-- what it reads in a source, with case ignored
abbrev pub read_as : List ℕ → List (List ℕ × Re)
read_as source = option_to_list (option_map (λ found. (source, found.0.value)) (read caseless (chars source)))

-- what it reads in some sources
abbrev pub known_by : List (List ℕ) → Known
known_by sources = flat_map read_as sources
