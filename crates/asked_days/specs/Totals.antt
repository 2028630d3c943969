-- The order of days is total.
use Rattle.std.specs.Prelude.{◌≡◌, false}
use Rattle.std.proofs.Common.{sym}
use Rattle.std.specs.declared.cmp.Ordering.TheVariants.{Less, Greater}
use Rattle.std.specs.Ordering.{is_gt}
use Rattle.std.specs.Cmp.{IsTotalOrder}
use Rattle.std.proofs.lemmas.Bool.{false≢true}
use Rattle.std.proofs.lemmas.Cmp.{nat_cmp_total, on_total}
use Rattle.asked_days.specs.declared.counts.DayCount.{DayCount}
use Rattle.asked_days.specs.declared.counts.Sought.{Sought}
use Rattle.asked_days.specs.Counts.{day_cmp, with_count}

pub day_total : IsTotalOrder day_cmp
day_total = on_total (λ (c : DayCount). c.day.0) nat_cmp_total

-- a day that is looked for as one with a count
abbrev pub day_sought : Sought → DayCount
day_sought s = with_count s.day 0

-- nothing stands behind the end
pub never_below : (a b : DayCount) → is_gt Greater ≡ false → Greater ≡ Less
never_below a b h = absurd (false≢true (sym h))
