-- A printed day is ASCII.
use Rattle.std.proofs.Common.{ℕ, zero, suc, ◌+◌, ◌<◌, ◌≤◌, List, [], ◌∷◌, ◌++◌, arith}
use Rattle.std.specs.List.{AllByRecursion}
use Rattle.std.specs.Prelude.{slice_index}
use Rattle.std.specs.Str.{IsUtf8}
use Rattle.std.proofs.lemmas.Str.{IsUtf8-from_ascii}
use Rattle.hl_time.specs.Calendar.{IsDay, year_of, month_of, day_of_month}
use Rattle.hl_time.specs.Shown.{day_text, four_digits, two_digits}
use Rattle.hl_time.proofs.Inverse.{day_found, parts_of_day, month_length_bounds}

all-ascii : (bs : List ℕ) → AllByRecursion (λ (b : ℕ). b < 128) bs → (i : ℕ) → slice_index bs i < 128
all-ascii [] h i = omega arith
all-ascii (b ∷ bs) h zero = h.0
all-ascii (b ∷ bs) h (suc i) = all-ascii bs h.1 i

day_bytes : (y m d : ℕ) → y ≤ 9999 → m ≤ 12 → d ≤ 31 → AllByRecursion (λ (b : ℕ). b < 128) (four_digits y ++ (45 ∷ two_digits m) ++ (45 ∷ two_digits d))
day_bytes y m d hy hm hd =
    (omega arith, (omega arith, (omega arith, (omega arith, (omega arith, (omega arith, (omega arith, (omega arith, (omega arith, (omega arith, tt))))))))))

pub day_utf8 : (day : ℕ) → IsDay day → IsUtf8 (day_text day)
unfolding day_text
day_utf8 day within =
    let parts = parts_of_day (year_of day) (month_of day) (day_of_month day) (day_found day within).has in
    let bytes = day_bytes (year_of day) (month_of day) (day_of_month day) parts.year_most parts.month_most (omega (arith, parts.day_most, (month_length_bounds (year_of day) (month_of day)).1)) in
    let text = four_digits (year_of day) ++ (45 ∷ two_digits (month_of day)) ++ (45 ∷ two_digits (day_of_month day)) in
    IsUtf8-from_ascii text (all-ascii text bytes)
