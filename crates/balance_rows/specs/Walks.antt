-- Two amounts, compared entry by entry.
use Rattle.std.specs.Prelude.{ℕ, ℤ, pos, List, [], ◌∷◌}
use Rattle.std.specs.declared.cmp.Ordering.{Ordering}
use Rattle.std.specs.declared.cmp.Ordering.TheVariants.{Equal}
use Rattle.std.specs.Ordering.{int_cmp, nat_cmp, match_ordering, ordering_then}
use Rattle.std.specs.Cmp.Lexicographic.{slice_cmp}
use Rattle.report_cells.specs.Report.{Sums}

-- an entry that the other amount doesn't have, on the left and on the right
abbrev pub left_cmp : List ℕ × ℤ → Ordering
left_cmp entry = int_cmp (pos 0) entry.1

abbrev pub right_cmp : List ℕ × ℤ → Ordering
right_cmp entry = int_cmp entry.1 (pos 0)

-- two entries: the one with the lesser symbol against none, or both values
abbrev pub entry_cmp : List ℕ × ℤ → List ℕ × ℤ → Ordering
entry_cmp a b = match_ordering (slice_cmp nat_cmp a.0 b.0) (left_cmp a) (int_cmp b.1 a.1) (right_cmp b)

-- the first entries that aren't the same decide
abbrev pub walked : Sums → Sums → Ordering
walked [] [] = Equal
walked (a ∷ more) [] = left_cmp a
walked [] (b ∷ others) = right_cmp b
walked (a ∷ more) (b ∷ others) = ordering_then (entry_cmp a b) (walked more others)
