-- Numbers of transactions under days.
use Rattle.std.specs.Prelude.{◌≡◌, ℕ, nat_lt, ◌==◌, Bool, ◌&&◌, ◌||◌, true, List, [], ◌∷◌, map, filter}
use Rattle.std.specs.List.{list_all}
use Rattle.hl_time.specs.declared.day.Day.{Day}
use Rattle.book.specs.declared.transaction.Txn.{Txn}
use Rattle.placed_sums.specs.declared.on_day.OnDay.{OnDay}
use Rattle.placed_sums.specs.Numbers.{numbers_on}

abbrev pub numbers_in : List OnDay → List ℕ
numbers_in places = map (λ place. place.number) places

-- the numbers under a day
abbrev pub numbers_at : ℕ → List OnDay → List ℕ
numbers_at day places = numbers_in (filter (λ place. place.day.0 == day) places)

-- by day, then by number
abbrev pub is_below : OnDay → OnDay → Bool
is_below a b = nat_lt a.day.0 b.day.0 || ((a.day.0 == b.day.0) && nat_lt a.number b.number)

-- each place is below all after it
abbrev pub rise : List OnDay → Bool
rise [] = true
rise (place ∷ places) = list_all (is_below place) places && rise places

-- under each day stand the numbers of the transactions that have a posting on it, each once
abbrev pub AreDaysOf : List OnDay → List Txn → Type 0
AreDaysOf places book = (day : ℕ) → numbers_at day places ≡ numbers_on day book

-- the places of a day before a number
abbrev pub places_before : Day → ℕ → List OnDay → List OnDay
places_before day number places =
    filter (λ place. (place.day.0 == day.0) && nat_lt place.number number) places
