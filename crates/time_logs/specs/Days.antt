-- The hours of sessions, day by day.
use Rattle.std.specs.Prelude.{ℕ, pos, ◌+◌, ◌-◌, ◌*◌, ◌/◌, ◌^◌, ◌*ℤ◌, ◌≡◌, ◌≤◌, min, max, false, List, [], ◌∷◌, map, None, Some, codes}
use Rattle.std.specs.List.{range_with_len, sum_by}
use Rattle.hl_base.specs.Ascii.{dot}
use Rattle.hl_num.specs.Decimal.{Decimal}
use Rattle.hl_num.specs.Rounding.{signed_half_even}
use Rattle.book.specs.Postings.{plain_posting}
use Rattle.book.specs.declared.amount.Amount.{Amount}
use Rattle.book.specs.declared.transaction.Mark.TheVariants.{Cleared}
use Rattle.book.specs.declared.transaction.Posting.{Posting}
use Rattle.book.specs.declared.transaction.Side.TheVariants.{Free}
use Rattle.book.specs.declared.transaction.Txn.{Txn}
use Rattle.time_logs.specs.Bounds.{day_seconds}
use Rattle.time_logs.specs.declared.sessions.Session.{Session}

-- the day on which a second lies
abbrev pub day_at : ℕ → ℕ
day_at second = second / day_seconds + 1

-- how many of a session's seconds lie on a day
abbrev pub seconds_on : Session → ℕ → ℕ
seconds_on s day = min s.until (day * day_seconds) - max s.from ((day - 1) * day_seconds)

-- the day of its last second, or of its beginning where it has none
abbrev pub last_day_of : Session → ℕ
last_day_of s = day_at (max s.from (s.until - 1))

-- the days on which it has a second, or its day where it has none
abbrev pub day_count : Session → ℕ
day_count s = last_day_of s - day_at s.from + 1

abbrev pub days_of : Session → List ℕ
days_of s = range_with_len (day_at s.from) (day_count s)

-- the seconds of its days sum to its whole
pub record IsWhole (s : Session) : Type 0 where
  pub forward : s.from ≤ s.until
  pub seconds : sum_by (seconds_on s) (days_of s) ≡ s.until - s.from

-- seconds as hours, half to even at two decimals
abbrev pub hours_of : ℕ → Decimal
hours_of seconds = record { mantissa = signed_half_even (pos seconds *ℤ pos (10 ^ 2)) 3600; places = 2 }

-- an amount of hours: `h` to the right without a space
abbrev pub hours : Decimal → Amount
hours value = record {
  symbol = codes "h";
  value = value;
  shape = record { left = false; spaced = false; mark = Some dot; group = None; first = 3; rest = 3 };
}

-- hours on an account: a free virtual posting
abbrev pub hours_posting : ℕ → List ℕ → Decimal → Posting
hours_posting line account value = record (plain_posting line Free account) { amount = Some (hours value) }

-- a cleared transaction
abbrev pub hours_entry : ℕ → ℕ → List ℕ → List Posting → Txn
hours_entry line day description postings = record {
  line = line;
  day = record { 0 = day };
  mark = Cleared;
  code = [];
  description = description;
  comment = [];
  tags = [];
  postings = postings;
}

-- a session's transaction of a day
abbrev pub entry_on : Session → ℕ → Txn
entry_on s day =
    hours_entry s.line day s.description (hours_posting s.line s.account (hours_of (seconds_on s day)) ∷ [])

-- one for each of its days
abbrev pub entries_of : Session → List Txn
entries_of s = map (entry_on s) (days_of s)

-- how many these are of all sessions, or the greatest number that is told
abbrev pub days_in : List Session → ℕ
days_in ss = min (sum_by day_count ss) (2 ^ 64 - 1)
