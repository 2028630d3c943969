use Rattle.std.proofs.Common.{◌≡◌, cond, take}
use Rattle.std.specs.List.{list_any}
use Rattle.hl_time.specs.declared.day.Day.{Day}
use Rattle.placed_sums.specs.Numbers.{is_on}
use Rattle.shared_days.specs.Days.{numbers_now}
use Rattle.shared_days.specs.Places.{left}
use Rattle.shared_days.proofs.changing.take_postings.Given as goal

abbrev pub invariant-loop-posting : goal.invariant-loop-posting
invariant-loop-posting l = (day : Day) → numbers_now day l.days ≡ cond (list_any (is_on day.0 l.txn) (take l.posting-index l.postings)) (left l.number (numbers_now day l.initial.days)) (numbers_now day l.initial.days)
