-- The days of what is read.
use Rattle.std.specs.Prelude.{IfSome}
use Rattle.std.specs.List.{AllByRecursion}
use Rattle.hl_time.specs.Calendar.{IsDay}
use Rattle.book.specs.declared.transaction.Posting.{Posting}
use Rattle.book.specs.declared.transaction.Txn.{Txn}

-- a posting's own day, if it has one, is one of the calendar
abbrev pub IsDated : Posting → Type 0
IsDated p = IfSome p.day (λ day. IsDay day.0)

-- The day of a transaction and the days of its postings are days of the calendar.
pub record IsInCalendar (t : Txn) : Type 0 where
  pub day : IsDay t.day.0
  pub postings : AllByRecursion IsDated t.postings
