-- Symbols that are put into an ordered set, one after another.
use Rattle.std.specs.Prelude.{ℕ, List, [], ◌∷◌}
use Rattle.std.specs.BTreeSet.{insert_key}
use Rattle.std.specs.Cmp.Lexicographic.{slice_cmp}
use Rattle.std.specs.Ordering.{nat_cmp}

-- some symbols, in the order of their bytes and each once, with more of them put in from the last one on
abbrev pub with_all : List (List ℕ) → List (List ℕ) → List (List ℕ)
with_all found [] = found
with_all found (symbol ∷ symbols) = insert_key (slice_cmp nat_cmp) (with_all found symbols) symbol
