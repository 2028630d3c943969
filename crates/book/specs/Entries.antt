-- Lists of entries in the order of their symbols.
use Rattle.std.specs.Prelude.{ℕ, pos, ◌≢◌, List, Option, T}
use Rattle.std.specs.List.{AllByRecursion}
use Rattle.std.specs.Ordering.{nat_cmp}
use Rattle.std.specs.Cmp.Lexicographic.{slice_cmp}
use Rattle.std.specs.FinMap.Entries.{find, is_sorted}
use Rattle.hl_num.specs.Decimal.{Decimal}

-- what stands at a symbol
abbrev pub held : {V : Type 0} → List ℕ → List (List ℕ × V) → Option V
held symbol entries = find (slice_cmp nat_cmp) symbol entries

-- the symbols rise, by their bytes
abbrev pub IsRising : {V : Type 0} → List (List ℕ × V) → Type 0
IsRising entries = T (is_sorted (slice_cmp nat_cmp) entries)

-- what is true of the entries of `Mixed`
pub record AreSums (entries : List (List ℕ × Decimal)) : Type 0 where
  pub rising : IsRising entries
  pub nonzero : AllByRecursion (λ entry. entry.1.mantissa ≢ pos 0) entries
