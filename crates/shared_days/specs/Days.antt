-- The transactions of a book by the days of their postings.
use Rattle.std.specs.Prelude.{◌≡◌, ℕ, ◌-◌, ◌^◌, ◌==◌, List, Option, None, Some, if◌then◌else◌}
use Rattle.std.specs.Arc.{arc_value}
use Rattle.hl_time.specs.declared.day.Day.{Day}
use Rattle.book.specs.declared.transaction.Txn.{Txn}
use Rattle.placed_sums.specs.Days.{numbers_in, places_before}
use Rattle.placed_sums.specs.Numbers.{numbers_on}
use Rattle.shared_days.specs.declared.day_places.DayPlaces.{DayPlaces}
use Rattle.shared_days.specs.declared.days.SharedDays.{SharedDays}
use Rattle.shared_days.specs.Places.{found_on}

abbrev pub numbers_or : List ℕ → Option DayPlaces → List ℕ
numbers_or others None = others
numbers_or others (Some d) = numbers_in d.places.items

-- The numbers under a day: those that stand there since it changed, or else those with which it was made. All of these
-- are below the greatest that there is.
abbrev pub numbers_now : Day → SharedDays → List ℕ
numbers_now day days = numbers_or (numbers_in (places_before day (2 ^ 64 - 1) (arc_value days.made))) (found_on day.0 days.changed)

-- under each day stand the numbers of the transactions that have a posting on it, each once
abbrev pub AreOf : List Txn → SharedDays → Type 0
AreOf book days = (day : Day) → numbers_now day days ≡ numbers_on day.0 book

-- a day has these numbers, and all others have those that they had
abbrev pub HasPut : Day → List ℕ → SharedDays → SharedDays → Type 0
HasPut day numbers old new = (other : Day) → numbers_now other new ≡ (if day.0 == other.0 then numbers else numbers_now other old)
