-- Periods worked out by hand from the forms.
use Rattle.std.proofs.Common.{◌≡◌, Some, None, Ok, Err, refl}
use Rattle.std.specs.Prelude.{codes}
use Rattle.hl_time.specs.Calendar.{day_number, days_of_years, days_of_months, greatest, years_before, months_before, year_of, month_of}
use Rattle.hl_time.specs.Date.{part_length, part_value, year_digits, year_value}
use Rattle.hl_time.specs.Units.{month_start, month_index, unit_start, unit_of}
use Rattle.hl_time.specs.Words.{is_word, keyword, near_word, one_word, many_word, interval_word, number_of, whole, is_quarter, is_month, written, word_of, blanks, run, word_start, word_stop, words, place_of}
use Rattle.hl_time.specs.Periods.{near, moment, after, ended, until_moment, bare_moment, span_of, from_moment, interval_then, period_of_words, period_of}
use Rattle.hl_time.specs.declared.fault.TimeFault.TheVariants.{BadPeriod}
use Rattle.hl_time.specs.declared.spans.Unit.TheVariants as units

-- on 2024-01-31
pub next_month : period_of (codes "Next month") 738_916 ≡ Ok (record { from = Some 738_917; end = Some 738_946; interval = None })
unfolding day_number days_of_years days_of_months greatest years_before months_before year_of month_of year_digits month_start month_index unit_start unit_of is_word keyword near_word one_word many_word interval_word number_of whole written word_of blanks run word_start word_stop words place_of near moment after bare_moment span_of period_of_words period_of
next_month = refl

pub every_quarter : period_of (codes "every 3 months 2023-02..2024q1") 738_916 ≡ Ok (record { from = Some 738_552; end = Some 738_886; interval = Some (record { unit = units.Month; n = 3 }) })
unfolding day_number days_of_years days_of_months part_length part_value year_digits year_value month_start unit_start is_word keyword near_word one_word many_word interval_word number_of whole is_quarter is_month written word_of blanks run word_start word_stop words place_of moment after ended until_moment bare_moment span_of interval_then period_of_words period_of
every_quarter = refl

pub no_period : period_of (codes "from 2024 until 2025") 738_916 ≡ Err (BadPeriod 10)
unfolding day_number days_of_years days_of_months part_length part_value year_digits year_value month_start unit_start is_word keyword near_word one_word many_word interval_word number_of whole is_quarter is_month written word_of blanks run word_start word_stop words place_of moment after from_moment span_of period_of_words period_of
no_period = refl
