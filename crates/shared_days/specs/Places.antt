-- The places of one day.
use Rattle.std.specs.Prelude.{ℕ, suc, nat_lt, ◌==◌, Bool, not, List, [], ◌∷◌, filter, find, Option, if◌then◌else◌}
use Rattle.std.specs.declared.cmp.Ordering.{Ordering}
use Rattle.std.specs.Ordering.{nat_cmp, is_eq}
use Rattle.placed_sums.specs.declared.on_day.OnDay.{OnDay}
use Rattle.shared_days.specs.declared.day_places.DayPlaces.{DayPlaces}

abbrev pub day_cmp : DayPlaces → DayPlaces → Ordering
day_cmp a b = nat_cmp a.day.0 b.day.0

-- what is kept of a day
abbrev pub found_on : ℕ → List DayPlaces → Option DayPlaces
found_on day days = find (λ d. is_eq (nat_cmp day d.day.0)) days

-- ---- numbers

-- a number among others in their order, once
abbrev pub with_number : ℕ → List ℕ → List ℕ
with_number n [] = n ∷ []
with_number n (j ∷ js) = if nat_lt j n then j ∷ with_number n js else (if j == n then j ∷ js else n ∷ j ∷ js)

-- all other numbers
abbrev pub left : ℕ → List ℕ → List ℕ
left n ks = filter (λ j. not (j == n)) ks

-- ---- places

abbrev pub is_lower : ℕ → OnDay → Bool
is_lower n place = nat_lt place.number n

-- those at the front with lower numbers, and how many they are
abbrev pub lower_front : ℕ → List OnDay → List OnDay
lower_front n [] = []
lower_front n (place ∷ places) = if is_lower n place then place ∷ lower_front n places else []

abbrev pub lower_count : ℕ → List OnDay → ℕ
lower_count n [] = 0
lower_count n (place ∷ places) = if is_lower n place then suc (lower_count n places) else 0

-- without the first, where it has the number
abbrev pub past_first : ℕ → List OnDay → OnDay → List OnDay → List OnDay
past_first n places first rest = if first.number == n then rest else places

abbrev pub past_number : ℕ → List OnDay → List OnDay
past_number n [] = []
past_number n (place ∷ places) = past_first n (place ∷ places) place places
