-- Averages of totals by a number of columns, and which of them can't be told.
use Rattle.std.specs.Prelude.{ℕ, ℤ, pos, ◌*ℤ◌, ◌-◌, ◌*◌, ◌^◌, Bool, not, ◌||◌, nat_le, List, map, filter, Option, Some, None, if◌then◌else◌, unsigned_abs}
use Rattle.std.specs.List.{fold}
use Rattle.std.specs.Ordering.{nat_cmp, is_lt}
use Rattle.std.specs.Cmp.Lexicographic.{slice_cmp}
use Rattle.hl_num.specs.Decimal.{Decimal}
use Rattle.hl_num.specs.Rounding.{signed_half_even}
use Rattle.book.specs.declared.style.Style.{Style}
use Rattle.book.specs.Sums.{is_nonzero}
use Rattle.report_cells.specs.Report.{Sums}
use Rattle.hl_num.specs.Shortest.{shortest}

-- a value's part by a number of columns, half to even at so many decimals, in units of the last of them
abbrev pub average_of : ℕ → ℕ → Decimal → ℤ
average_of columns places total = signed_half_even (total.mantissa *ℤ pos (10 ^ places)) (columns * 10 ^ total.places)

-- the mantissa times a power of ten for the style's decimals, or the number of columns times one for the value's own,
-- reaches 2^127
abbrev pub is_past : ℕ → ℕ → Decimal → Bool
is_past columns places total =
    nat_le (2 ^ 127) (unsigned_abs total.mantissa * 10 ^ places) || nat_le (2 ^ 127) (columns * 10 ^ total.places)

-- no average of an entry can be told
abbrev pub is_out : ℕ → (List ℕ → Style) → List ℕ × ℤ → Bool
is_out columns style entry = is_past columns (style entry.0).places (shortest entry.1)

-- an entry's average, in units of 10^-36
abbrev pub average_entry : ℕ → (List ℕ → Style) → List ℕ × ℤ → List ℕ × ℤ
average_entry columns style entry =
    let places = (style entry.0).places in
    (entry.0, average_of columns places (shortest entry.1) *ℤ pos (10 ^ (36 - places)))

-- the averages of a total that can be told and aren't zero
abbrev pub averages : ℕ → (List ℕ → Style) → Sums → Sums
averages columns style total =
    filter (λ sum. is_nonzero sum.1) (map (average_entry columns style) (filter (λ entry. not (is_out columns style entry)) total))

-- the symbols of those that can't be told
abbrev pub symbols_out : ℕ → (List ℕ → Style) → Sums → List (List ℕ)
symbols_out columns style total = map (λ entry. entry.0) (filter (is_out columns style) total)

-- a symbol, where it is less than another by its bytes, or there is no other
abbrev pub lesser : Option (List ℕ) → List ℕ → Option (List ℕ)
lesser None symbol = Some symbol
lesser (Some other) symbol = if is_lt (slice_cmp nat_cmp symbol other) then Some symbol else Some other

-- the least of some symbols and of one that stands before them
abbrev pub least_with : Option (List ℕ) → List (List ℕ) → Option (List ℕ)
least_with before symbols = fold lesser before symbols

-- the least of some symbols
abbrev pub least : List (List ℕ) → Option (List ℕ)
least symbols = least_with None symbols
