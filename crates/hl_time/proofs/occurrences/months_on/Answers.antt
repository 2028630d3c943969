use Rattle.std.proofs.Common.{◌≡◌, ◌+◌, ◌/◌, ◌%◌, min, ap, ◌∙◌, arith}
use Rattle.hl_time.specs.Calendar.{day_of_month, month_length}
use Rattle.hl_time.specs.Units.{month_index}
use Rattle.hl_time.proofs.OccurrenceLaws.{past_months, found_months}
use Rattle.hl_time.proofs.occurrences.months_on.Goals as goal

pub returns-then-index-from : goal.returns-then-index-from
returns-then-index-from c = past_months c.args.day.0 c.args.months c.requires.first (omega arith)

pub returns : goal.returns
returns c =
    let at = c.from.result + c.args.months in
    let index : at ≡ month_index c.args.day.0 + c.args.months = omega arith in
    let there : c.min.result ≡ min (day_of_month c.args.day.0) (month_length (at / 12 + 1) (at % 12 + 1)) =
    cc (c.min.ensures, c.civil_of-date.ensures.day, c.month_length.ensures) in
    c.day_of.ensures.number ∙ found_months c.args.day.0 c.args.months (at / 12 + 1) (at % 12 + 1) c.min.result c.requires.first (omega arith) (ap (λ i. i / 12 + 1) index) (ap (λ i. i % 12 + 1) index) there
