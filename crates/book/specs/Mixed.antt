-- Adding to sums of several symbols.
use Rattle.std.specs.Prelude.{◌≡◌, ℕ, ◌+ℤ◌, ◌==◌, Bool, true, false, not, List, max, unsigned_abs, Option, Some, None}
use Rattle.std.specs.Ordering.{nat_cmp, eq_by_cmp}
use Rattle.std.specs.Cmp.Lexicographic.{slice_cmp}
use Rattle.std.specs.FinMap.Entries.{put, where_key}
use Rattle.hl_num.specs.Decimal.{Decimal, mantissa_at, add_fits}
use Rattle.book.specs.Entries.{held}
use Rattle.book.specs.declared.mixed.MixedFault.{MixedFault}
use Rattle.book.specs.declared.mixed.MixedFault.TheVariants.{Range, Memory}

-- the exact sum of two decimals, with the greater number of places
abbrev pub plus : Decimal → Decimal → Decimal
plus a b = record { mantissa = mantissa_at a (max a.places b.places) +ℤ mantissa_at b (max a.places b.places); places = max a.places b.places }

-- a value with the sum that is there already
abbrev pub sum_with : Option Decimal → Decimal → Decimal
sum_with None value = value
sum_with (Some sum) value = plus sum value

abbrev pub is_zero : Decimal → Bool
is_zero d = unsigned_abs d.mantissa == 0

-- the entries without that of a symbol
abbrev pub without : List ℕ → List (List ℕ × Decimal) → List (List ℕ × Decimal)
without symbol entries = where_key (slice_cmp nat_cmp) (λ other. not (eq_by_cmp (slice_cmp nat_cmp) symbol other)) entries

-- the entries with a sum at a symbol, or with none where it is zero
abbrev pub settled : Bool → List ℕ → Decimal → List (List ℕ × Decimal) → List (List ℕ × Decimal)
settled true symbol sum entries = without symbol entries
settled false symbol sum entries = put (slice_cmp nat_cmp) symbol sum entries

-- the sums after a value in a symbol
abbrev pub added : List ℕ → Decimal → List (List ℕ × Decimal) → List (List ℕ × Decimal)
added symbol value entries =
    let sum = sum_with (held symbol entries) value in
    settled (is_zero sum) symbol sum entries

-- the sum that is there and a value can be added
abbrev pub fits_with : Option Decimal → Decimal → Bool
fits_with None value = true
fits_with (Some sum) value = add_fits sum value

-- What an addition may answer instead: the sum that is there and the value, where they can't be added; and want
-- of memory only for a symbol without a sum.
abbrev pub IsAddFault : List ℕ → Decimal → List (List ℕ × Decimal) → MixedFault → Type 0
IsAddFault symbol value entries (Range a b) = (held symbol entries ≡ Some a) × (b ≡ value) × (add_fits a b ≡ false)
IsAddFault symbol value entries Memory = held symbol entries ≡ None
