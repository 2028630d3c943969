-- The days on which a book asks for balances.
use Rattle.std.specs.Prelude.{◌≡◌, ℕ, ◌+◌, ◌<◌, ◌==◌, Bool, List, [], ◌∷◌, filter, length, max, Option, Some, None, is_some, unwrap_or, if◌then◌else◌}
use Rattle.std.specs.List.{flat_map, fold, list_any}
use Rattle.hl_time.specs.declared.day.Day.{Day}
use Rattle.book.specs.declared.amount.Assertion.{Assertion}
use Rattle.book.specs.declared.transaction.Posting.{Posting}
use Rattle.book.specs.declared.transaction.Txn.{Txn}
use Rattle.book.specs.Postings.{postings_of}
use Rattle.book.specs.SumsBefore.{is_assigned}
use Rattle.asked_days.specs.declared.asked.AskedDays.{AskedDays}
use Rattle.asked_days.specs.declared.counts.DayCount.{DayCount}
use Rattle.asked_days.specs.Counts.{count_at, found_at}

-- the day of a posting: its own, else that of its transaction
abbrev pub day_of : Txn → Posting → Day
day_of t p = unwrap_or p.day t.day

abbrev pub days_if : Option Assertion → Day → List Day
days_if None day = []
days_if (Some wanted) day = day ∷ []

-- the day of a posting that has an assertion or is an assignment
abbrev pub days_of_posting : Txn → Posting → List Day
days_of_posting t p = days_if p.wanted (day_of t p)

-- the days on which a transaction's postings ask
abbrev pub days_of : Txn → List Day
days_of t = flat_map (days_of_posting t) t.postings

-- how often a day is among some
abbrev pub how_often : ℕ → List Day → ℕ
how_often day [] = 0
how_often day (d ∷ ds) = (if day == d.0 then 1 else 0) + how_often day ds

-- What is kept of some days: how often each is among them.
pub record IsKept (days : List Day) (kept : List DayCount) : Type 0 where
  pub counts : (day : ℕ) → count_at day kept ≡ how_often day days
  pub some : (day : ℕ) (c : DayCount) → found_at day kept ≡ Some c → 0 < c.count

-- how many of some postings are assignments, as they stand in a book
abbrev pub assigned_among : List Posting → ℕ
assigned_among ps = length (filter is_assigned ps)

-- What is kept is of the days on which a book's postings ask, and of how many of these are assignments.
pub record AreOf (book : List Txn) (kept : AskedDays) : Type 0 where
  pub days : IsKept (flat_map days_of book) kept.days
  pub assigned : kept.assigned ≡ assigned_among (postings_of book)

-- a posting of the book is an assignment
abbrev pub has_assigned : List Txn → Bool
has_assigned book = list_any is_assigned (postings_of book)

-- ---- the last

-- the day of a posting that asks for a balance, 0 of any other one
abbrev pub asked_on : Txn → Posting → ℕ
asked_on t p = if is_some p.wanted then (day_of t p).0 else 0

-- the later of a day and the last one on which a posting of a transaction asks
abbrev pub asked_through : ℕ → Txn → ℕ
asked_through last t = fold (λ l p. max l (asked_on t p)) last t.postings

-- the last day on which a posting of a book asks, 0 where none does
abbrev pub last_asked : List Txn → ℕ
last_asked txns = fold asked_through 0 txns
