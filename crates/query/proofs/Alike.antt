-- Regexes that are built from sources find what the grammar reads in these.
use Rattle.std.proofs.Common.{◌≡◌, ℕ, zero, suc, ◌%◌, ◌<◌, ◌≤◌, Bool, true, false, cond, List, [], ◌∷◌, ◌++◌, map, length, get_or, chars, Option, Some, None, is_some, IsSomeAnd, refl, sym, ap, ◌∙◌, arith}
use Rattle.std.specs.List.{flat_map, All}
use Rattle.std.specs.Str.{bytes_eq}
use Rattle.std.specs.Option.{option_to_list}
use Rattle.std.specs.Prelude.{option_map}
use Rattle.std.proofs.lemmas.List.Elements.{All-head, All-tail}
use Rattle.regex.specs.Patterns.{Re, SameCaptures, Config}
use Rattle.regex.specs.Strings.{regex_source, regex_config, regex_pattern, IsReadFromSource}
use Rattle.regex.specs.declared.string.regex.Regex.{Regex}
use Rattle.regex_syntax.specs.Grammar.{read, Names}
use Rattle.regex_syntax.specs.Brackets.{Nested}
use Rattle.regex_syntax.specs.Verdict.{Reads}
use Rattle.regex.proofs.ForCallers as callers
use Rattle.query_terms.specs.Making.{caseless}
use Rattle.query_terms.specs.Patterns.{as_bytes, is_found, Known, re_of}
use Rattle.query_terms.specs.Readings.{known_by}
use Rattle.query_terms.specs.Sought.{known_of}
use Rattle.query.specs.Building.{IsCaseless, AreBuilt}

small : (text : List ℕ) (k : ℕ) → get_or (as_bytes text) k 0 < 256
small [] k = omega arith
small (b ∷ bs) zero = omega arith
small (b ∷ bs) (suc k) = small bs k

-- the same captures, the same texts
found_alike : (a b : Re) → SameCaptures a b → (text : List ℕ) → is_found (Some a) text ≡ is_found (Some b) text
found_alike a b same text = callers.is_match_alike same (as_bytes text) (small text) true 0

-- a source is read
abbrev Read : Option (Nested Re × Names) → Re → Type 0
Read o re = IsSomeAnd o (λ found. SameCaptures re found.0.value)

weaker : (o : Option (Nested Re × Names)) (P Q : Nested Re × Names → Type 0) → ((x : Nested Re × Names) → P x → Q x) → IsSomeAnd o P → IsSomeAnd o Q
weaker None P Q f h = absurd h
weaker (Some x) P Q f h = f x h

is_read : (config : Config) (r : Regex) → regex_config r ≡ config → IsReadFromSource r → Read (read config (chars (regex_source r))) (regex_pattern r)
unfolding Reads
is_read config r is from_source = weaker (read config (chars (regex_source r))) _ _ (λ x h. h.1) (rw is at from_source)

one_more : (s source text : List ℕ) (re : Re) (o : Option (Nested Re × Names)) (a b : Known)
    → Read o re
    → is_found (re_of a source) text ≡ is_found (re_of b source) text
    → is_found (re_of ((s, re) ∷ a) source) text ≡ is_found (re_of (option_to_list (option_map (λ (found : Nested Re × Names). (s, found.0.value)) o) ++ b) source) text
one_more s source text re None a b h e = absurd h
one_more s source text re (Some found) a b h e =
    elim (bytes_eq s source) as (λ t. is_found (cond t (Some re) (re_of a source)) text ≡ is_found (cond t (Some found.0.value) (re_of b source)) text) [
      | true ↦ found_alike re found.0.value h text
      | false ↦ e
    ]

-- regexes of some sources find what the sources are read as
pub known_alike : (sources : List (List ℕ)) (regexes : List Regex) → AreBuilt sources regexes → (source text : List ℕ) → is_found (re_of (known_of regexes) source) text ≡ is_found (re_of (known_by sources) source) text
known_alike sources [] built source text = ap (λ (ss : List (List ℕ)). is_found (re_of (known_by ss) source) text) built.named
known_alike sources (r ∷ rs) built source text =
    one_more (regex_source r) source text (regex_pattern r) (read caseless (chars (regex_source r))) (known_of rs) (known_by (map regex_source rs))
    (is_read caseless r first.config first.read)
    (known_alike (map regex_source rs) rs (record { named = refl; caseless = All-tail IsCaseless r rs built.caseless }) source text)
    ∙ ap (λ (ss : List (List ℕ)). is_found (re_of (known_by ss) source) text) built.named where
      first : IsCaseless r
      first = All-head IsCaseless r rs built.caseless
