-- Moments: a day with a time of day.
use Rattle.std.specs.Prelude.{ℕ, ◌+◌, ◌-◌, ◌*◌, ◌<◌, Bool, ◌&&◌, ◌==◌, nat_lt, List, [], ◌∷◌, Option, Some, None, Result, Ok, Err, if◌then◌else◌}
use Rattle.hl_base.specs.Ascii.{colon, digit_zero}
use Rattle.hl_time.specs.Date.{date_of}
use Rattle.hl_time.specs.declared.day.Day.{Day}
use Rattle.time_logs.specs.Bounds.{day_seconds}
pub use Rattle.hl_base.specs.Ascii.{is_digit}

-- a part, and then what is made of it
infixl 10 ◌>>=◌
abbrev pub ◌>>=◌ : {A B : Type 0} → Option A → (A → Option B) → Option B
(Some x) >>= f = f x
None >>= f = None

-- the number of two digits
unfoldable pub pair_of : ℕ → ℕ → Option ℕ
pair_of tens ones =
    if is_digit tens && is_digit ones then Some (10 * (tens - digit_zero) + (ones - digit_zero)) else None

-- the seconds of a day before a time below 24:00
unfoldable pub seconds_of : ℕ → ℕ → ℕ → Option ℕ
seconds_of hour minute second =
    if nat_lt hour 24 && nat_lt minute 60 && nat_lt second 60 then Some (3600 * hour + 60 * minute + second) else None

-- the same of its digits
unfoldable pub clock : ℕ × ℕ → ℕ × ℕ → ℕ × ℕ → Option ℕ
clock h m s =
    pair_of h.0 h.1 >>= λ hour. pair_of m.0 m.1 >>= λ minute. pair_of s.0 s.1 >>= λ second. seconds_of hour minute second

-- the seconds of a day before the time `H:M` or `H:M:S` that a text is, with two digits each
unfoldable pub time_of : List ℕ → Option ℕ
time_of (a ∷ b ∷ first ∷ c ∷ d ∷ []) =
    if first == colon then clock (a, b) (c, d) (digit_zero, digit_zero) else None
time_of (a ∷ b ∷ first ∷ c ∷ d ∷ second ∷ e ∷ f ∷ []) =
    if (first == colon) && (second == colon) then clock (a, b) (c, d) (e, f) else None
time_of _ = None

abbrev pub day_read : Result ℕ ℕ → Option Day
day_read (Ok day) = Some (record { 0 = day })
day_read (Err at) = None

-- the day that a text is, with its year
unfoldable pub day_of : List ℕ → Option Day
day_of text = day_read (date_of text None)

-- the seconds before a time on a day, from the first day's beginning on
abbrev pub moment_at : Day → ℕ → ℕ
moment_at day seconds = day_seconds * (day.0 - 1) + seconds

-- the moment that a day and a time write
unfoldable pub moment_of : List ℕ → List ℕ → Option ℕ
moment_of day time = day_of day >>= λ day. time_of time >>= λ seconds. Some (moment_at day seconds)
