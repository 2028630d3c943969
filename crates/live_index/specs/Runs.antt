-- Running sums by day, modulo 2^128.
use Rattle.std.specs.Prelude.{◌≡◌, ℕ, zero, suc, ℤ, pos, ◌+◌, ◌≤◌, ◌+ℤ◌, Bool, true, false, nat_lt, List, [], ◌∷◌, if◌then◌else◌}
use Rattle.std.specs.declared.cmp.Ordering.{Ordering}
use Rattle.std.specs.declared.cmp.Ordering.TheVariants.{Less, Greater}
use Rattle.std.specs.Ordering.{int_eq, nat_cmp}
use Rattle.std.specs.Int.{int_wrap, w128}
use Rattle.hl_time.specs.declared.day.Day.{Day}
use Rattle.live_index.specs.declared.runs.Run.{Run}

-- two numbers are one modulo 2^128
abbrev pub Alike : ℤ → ℤ → Type 0
Alike a b = int_wrap w128 a ≡ int_wrap w128 b

-- the days strictly rise, from the given one on
abbrev pub IsRising : ℕ → List Run → Type 0
IsRising least [] = Unit {0}
IsRising least (run ∷ runs) = (least ≤ run.day.0) × IsRising (run.day.0 + 1) runs

-- the last sum before a day, or the given one where there is none
abbrev pub sum_from : ℤ → List Run → ℕ → ℤ
sum_from earlier [] end = earlier
sum_from earlier (run ∷ runs) end = if nat_lt run.day.0 end then sum_from run.sum runs end else earlier

abbrev pub before : List Run → ℕ → ℤ
before runs end = sum_from (pos 0) runs end

-- how many days come before a day
abbrev pub place_in : List Run → ℕ → ℕ
place_in [] end = 0
place_in (run ∷ runs) end = if nat_lt run.day.0 end then suc (place_in runs end) else 0

-- the sum of the last of the first days, or the given one
abbrev pub sum_at : ℤ → List Run → ℕ → ℤ
sum_at earlier runs zero = earlier
sum_at earlier [] (suc place) = earlier
sum_at earlier (run ∷ runs) (suc place) = sum_at run.sum runs place

-- a day whose sum is that of the day before it is left out
abbrev pub changed : ℤ → Run → List Run → List Run
changed earlier run runs = if int_eq run.sum earlier then runs else run ∷ runs

-- which of two lists begins with the earlier day
abbrev pub earlier_of : List Run → List Run → Ordering
earlier_of [] others = Greater
earlier_of (run ∷ runs) [] = Less
earlier_of (run ∷ runs) (other ∷ others) = nat_cmp run.day.0 other.day.0

-- the sums of two lists of amounts
abbrev pub AreTogether : List Run → List Run → List Run → Type 0
AreTogether first second both = (end : ℕ) → before both end ≡ int_wrap w128 (before first end +ℤ before second end)

-- a sum to which an amount is added where a test says so
abbrev pub raise : Bool → ℤ → ℤ → ℤ
raise true amount sum = sum +ℤ amount
raise false amount sum = sum

-- no day's sum is that of the day before it
abbrev pub EachChanges : ℤ → List Run → Type 0
EachChanges earlier [] = Unit {0}
EachChanges earlier (run ∷ runs) = (int_eq run.sum earlier ≡ false) × EachChanges run.sum runs

-- what is kept: the days on which the sum changes, each once and in turn
pub record AreRuns (runs : List Run) : Type 0 where
  pub rising : IsRising 0 runs
  pub changes : EachChanges (pos 0) runs
