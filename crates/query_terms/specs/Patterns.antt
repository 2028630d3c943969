-- What a pattern finds in a text.
use Rattle.std.specs.Prelude.{ℕ, ◌%◌, Bool, false, not, ◌||◌, ◌==◌, List, [], ◌∷◌, ◌++◌, map, chars, codes, nat_eq, Option, Some, None, is_some, if◌then◌else◌}
use Rattle.std.specs.List.{starts_with, list_any, list_all}
use Rattle.std.specs.Map.{lookup}
use Rattle.std.specs.Str.{bytes_eq}
use Rattle.regex.specs.Patterns.{Re, find_str}
use Rattle.unicode.specs.CaseFolding.{simple_fold}
use Rattle.query_terms.specs.declared.kinds.Pattern.{Pattern}
use Rattle.query_terms.specs.declared.kinds.Pattern.TheVariants as patterns

-- one of `\ . + * ? ( ) | [ ] { } ^ $`
abbrev pub is_special : ℕ → Bool
is_special b = list_any (λ c. c == b) (codes "\\.+*?()|[]{}^$")

-- it has no special character
abbrev pub is_plain : List ℕ → Bool
is_plain text = list_all (λ b. not (is_special b)) text

-- the characters of a text, each by its simple folding
abbrev pub folded : List ℕ → List ℕ
folded text = map simple_fold (chars text)

-- some characters stand somewhere among others
abbrev pub occurs : List ℕ → List ℕ → Bool
occurs word [] = starts_with nat_eq [] word
occurs word (c ∷ cs) = starts_with nat_eq (c ∷ cs) word || occurs word cs

-- regexes by their sources
abbrev pub Known : Type 0
Known = List (List ℕ × Re)

-- the regex of a source; of several the first
abbrev pub re_of : Known → List ℕ → Option Re
re_of known source = lookup (λ s. bytes_eq s source) known

-- a text as bytes
abbrev pub as_bytes : List ℕ → List ℕ
as_bytes text = map (λ b. b % 256) text

abbrev pub is_found : Option Re → List ℕ → Bool
is_found None text = false
is_found (Some re) text = is_some (find_str re (as_bytes text) 0)

-- it is found somewhere in the text: a word by simple folding, any other as regex says
abbrev pub finds : Known → Pattern → List ℕ → Bool
finds known (patterns.Word word) text = occurs (folded word) (folded text)
finds known (patterns.Special source) text = is_found (re_of known source) text

-- it is the whole text: a word by simple folding; any other was built for whole texts
abbrev pub is_whole : Known → Pattern → List ℕ → Bool
is_whole known (patterns.Word word) text = bytes_eq (folded word) (folded text)
is_whole known (patterns.Special source) text = is_found (re_of known source) text

-- the pattern of a term
abbrev pub pattern_of : List ℕ → Pattern
pattern_of text = if is_plain text then patterns.Word text else patterns.Special text

-- a source that matches whole texts alone
abbrev pub whole_source : List ℕ → List ℕ
whole_source text = codes "^(?:" ++ text ++ codes ")$"

-- the pattern of a symbol
abbrev pub symbol_of : List ℕ → Pattern
symbol_of text = if is_plain text then patterns.Word text else patterns.Special (whole_source text)
