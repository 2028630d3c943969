-- Columns that are known by their numbers: each is the one day of its number.
use Rattle.std.specs.Prelude.{ℕ, zero, suc, ◌+◌, List, [], ◌∷◌}
use Rattle.hl_time.specs.declared.spans.Span.{Span}

-- so many columns from a number on
abbrev pub numbers_from : ℕ → ℕ → List Span
numbers_from number zero = []
numbers_from number (suc width) = record { from = number; end = number + 1 } ∷ numbers_from (number + 1) width

abbrev pub numbers : ℕ → List Span
numbers width = numbers_from 0 width
