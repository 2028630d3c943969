-- Sums that are kept while entries are added, one after another.
use Rattle.std.specs.Prelude.{◌≡◌, ℕ, true, List, [], ◌∷◌, map, slice_index_or}
use Rattle.std.specs.List.{flat_map}
use Rattle.hl_num.specs.Decimal.{Decimal, units_of}
use Rattle.book.specs.Entries.{held}
use Rattle.book.specs.Mixed.{added, fits_with}
use Rattle.hl_num.specs.Shortest.{shortest}

-- kept sums of several symbols
abbrev pub KeptSums : Type 0
KeptSums = List (List ℕ × Decimal)

-- an entry with no more decimals than its value needs
abbrev pub shortened : List ℕ × Decimal → List ℕ × Decimal
shortened entry = (entry.0, shortest (units_of entry.1))

-- the sums after some entries
abbrev pub added_all : KeptSums → KeptSums → KeptSums
added_all sums [] = sums
added_all sums (entry ∷ entries) = added_all (added entry.0 (shortest (units_of entry.1)) sums) entries

-- each of some entries can be added
abbrev pub EachFits : KeptSums → KeptSums → Type 0
EachFits sums [] = Unit {0}
EachFits sums (entry ∷ entries) =
    (fits_with (held entry.0 sums) (shortest (units_of entry.1)) ≡ true)
    × EachFits (added entry.0 (shortest (units_of entry.1)) sums) entries

-- the entries of several cells
abbrev pub all_entries : List KeptSums → KeptSums
all_entries cells = flat_map (λ cell. cell) cells

-- a kept row's cell in a column
abbrev pub kept_at : ℕ → List KeptSums → KeptSums
kept_at at cells = slice_index_or cells at []
