-- Sums of cells, exact, in units of 10^-36.
use Rattle.std.specs.Prelude.{ℕ, ℤ, pos, ◌+ℤ◌, List, [], ◌∷◌, map, filter, if◌then◌else◌}
use Rattle.std.specs.List.{flat_map}
use Rattle.std.specs.Str.{bytes_eq}
use Rattle.std.specs.Ordering.{nat_cmp}
use Rattle.std.specs.Cmp.Lexicographic.{slice_cmp}
use Rattle.book.specs.Order.{each_once}
use Rattle.book.specs.Sums.{is_nonzero}
use Rattle.report_cells.specs.Report.{Sums}

-- what an entry counts for in a symbol
abbrev pub share : List ℕ → List ℕ × ℤ → ℤ
share symbol entry = if bytes_eq entry.0 symbol then entry.1 else pos 0

-- the plain sum in a symbol
abbrev pub sum_of : List ℕ → Sums → ℤ
sum_of symbol [] = pos 0
sum_of symbol (entry ∷ entries) = share symbol entry +ℤ sum_of symbol entries

-- the symbols, in the order of their bytes, each once
abbrev pub symbols_of : Sums → List (List ℕ)
symbols_of entries = each_once (slice_cmp nat_cmp) (map (λ entry. entry.0) entries)

-- the sums that aren't zero, each with its symbol, in the order of the symbols
abbrev pub mixed_of : Sums → Sums
mixed_of entries = filter (λ sum. is_nonzero sum.1) (map (λ symbol. (symbol, sum_of symbol entries)) (symbols_of entries))

-- the entries of several cells
abbrev pub entries_of : List Sums → Sums
entries_of cells = flat_map (λ cell. cell) cells

-- the sums of several cells
abbrev pub summed : List Sums → Sums
summed cells = mixed_of (entries_of cells)
