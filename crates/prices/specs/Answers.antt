-- What a table keeps.
use Rattle.std.specs.Prelude.{◌≡◌, ℕ, if◌then◌else◌, List, Option, Some, None, Result, String}
use Rattle.std.specs.List.{list_any}
use Rattle.std.specs.Ordering.{nat_cmp}
use Rattle.std.specs.Cmp.Lexicographic.{slice_cmp}
use Rattle.std.specs.Str.{bytes_eq}
use Rattle.std.specs.BTreeMap.{BTreeMap, is_at, get_by_text}
use Rattle.std.specs.Map.{lookup}
use Rattle.std.specs.Global.{Global}
use Rattle.prices.specs.Fraction.{Fraction}
use Rattle.prices.specs.declared.rate.RateRange.{RateRange}
use Rattle.prices.specs.declared.search.Found.{Found}
use Rattle.prices.specs.Search.{chosen, worth}

-- what a symbol is worth
abbrev pub Answer : Type 0
Answer = Result (Option Fraction) RateRange

-- what a symbol is worth by the ways that were found
abbrev pub answer_by : List (List ℕ × Found) → List (List ℕ × Found) → List ℕ → Answer
answer_by declared either symbol = worth (chosen (lookup (is_at (slice_cmp nat_cmp symbol)) declared) (lookup (is_at (slice_cmp nat_cmp symbol)) either))

-- each of some symbols has its answer, and no other has one
abbrev pub IsTold : BTreeMap (String Global) Answer → List (List ℕ) → (List ℕ → Answer) → Type 0
IsTold answers symbols answer = (symbol : List ℕ) → get_by_text answers symbol ≡ (if list_any (λ s. bytes_eq s symbol) symbols then Some (answer symbol) else None)
