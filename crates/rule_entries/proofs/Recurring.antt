-- Days that come at intervals rise.
use Rattle.std.proofs.Common.{◌≡◌, ℕ, suc, ◌+◌, ◌-◌, ◌*◌, ◌/◌, ◌%◌, ◌<◌, ◌≤◌, inl, inr, min, Bool, true, false, ◌&&◌, ltb, leb, ltb-true, leb-true, cond, List, [], ◌∷◌, map, filter, Option, Some, None, refl, sym, ap, ◌∙◌, subst, arith}
use Rattle.std.specs.List.{range_with_len}
use Rattle.std.specs.Option.{option_to_list}
use Rattle.std.proofs.Math.Nat.{mul-le-mul_left}
use Rattle.std.proofs.lemmas.Bool.{false≢true, cases_lt, cases_eq}
use Rattle.std.proofs.lemmas.Bool.Decides.{nat_tests}
use Rattle.hl_time.specs.Calendar.{day_of_month, month_length, IsDay, day_end}
use Rattle.hl_time.specs.Units.{month_start, month_index, months_on, occurrence}
use Rattle.hl_time.specs.declared.day.Day.{Day}
use Rattle.hl_time.specs.declared.spans.Interval.{Interval}
use Rattle.hl_time.specs.declared.spans.Period.{Period}
use Rattle.hl_time.specs.declared.spans.Span.{Span}
use Rattle.hl_time.specs.declared.spans.Unit as declared
use Rattle.hl_time.specs.declared.spans.Unit.TheVariants as units
use Rattle.hl_time.proofs.UnitLaws.{month_start_next, month_start_mono, day_of_its_month}
use Rattle.rule_entries.specs.Occurring.{lies_in, narrowed, counted_from, most_counts, recurring, is_day, days_by, days_of, AreDays, Halved, IsCountAt}
use Rattle.rule_entries.specs.declared.days.Occasions.{Occasions}
use Rattle.rule_entries.proofs.Chosen.{chosen, none_of}

-- a day so many months on lies in its month, or is the one before it
months_within : (day months : ℕ)
    → (month_start (month_index day + months) ≤ months_on day months + 1)
    × (months_on day months < month_start (month_index day + months + 1))
unfolding months_on
months_within day months =
    let index = month_index day + months in
    let year : index / 12 + 1 ≡ suc (index / 12) = omega arith in
    let month : index % 12 + 1 ≡ suc (index % 12) = omega arith in
    let parts : index ≡ 12 * (index / 12) + index % 12 = omega arith in
    let next = rw (← parts) at (month_start_next (index / 12) (index % 12) (omega arith)) in
    let long : month_length (index / 12 + 1) (index % 12 + 1) ≡ month_length (suc (index / 12)) (suc (index % 12)) = rw (year, month) refl in
    let there = min (day_of_month day) (month_length (index / 12 + 1) (index % 12 + 1)) in
    (omega (arith, day_of_its_month index there), omega (arith, day_of_its_month index there, next, long))

pub months_rise : (day m n : ℕ) → m ≤ n → months_on day m ≤ months_on day n
months_rise day m n h =
    elim (cases_eq m n) [
      | inl same ↦ rw same (omega arith)
      | inr other ↦ omega (arith, (months_within day m).1, (months_within day n).0, month_start_mono (month_index day + m + 1) (month_index day + n) (omega (arith, h, other)))
    ]

rise_by : (unit : declared.Unit) (n start k l : ℕ) → k ≤ l
    → occurrence start (record { unit = unit; n = n }) k ≤ occurrence start (record { unit = unit; n = n }) l
unfolding occurrence
rise_by units.Day n start k l h = omega (arith, mul-le-mul_left n h)
rise_by units.Week n start k l h = omega (arith, mul-le-mul_left n h)
rise_by units.Month n start k l h = months_rise start (n * k) (n * l) (mul-le-mul_left n h)
rise_by units.Quarter n start k l h = months_rise start (3 * (n * k)) (3 * (n * l)) (omega (arith, mul-le-mul_left n h))
rise_by units.Year n start k l h = months_rise start (12 * (n * k)) (12 * (n * l)) (omega (arith, mul-le-mul_left n h))

-- what comes after more intervals comes no earlier
pub occurrences_rise : (start : ℕ) (interval : Interval) (k l : ℕ) → k ≤ l → occurrence start interval k ≤ occurrence start interval l
occurrences_rise start interval k l h = rise_by interval.unit interval.n start k l h

-- one day: the start itself
pub start_itself : (day : ℕ) → occurrence day (record { unit = units.Day; n = 1 }) 0 ≡ day
unfolding occurrence
start_itself day = omega arith

-- one day is one of the calendar
pub one_day : (day at : ℕ) → IsDay day → at < 1 → IsDay (occurrence day (record { unit = units.Day; n = 1 }) (0 + at))
one_day day at is inside =
    let none : 0 + at ≡ 0 = omega (arith, inside) in
    subst (λ (n : ℕ). IsDay (occurrence day (record { unit = units.Day; n = 1 }) n)) (sym none) (subst IsDay (sym (start_itself day)) is)

-- ---- a search by halves

pub upper_half : (start : ℕ) (interval : Interval) (day low high middle : ℕ) → Halved start interval day low high
    → middle < high → occurrence start interval middle < day → Halved start interval day (middle + 1) high
upper_half start interval day low high middle so inside less = record {
  ordered = omega (arith, inside);
  within = so.within;
  below = λ k to. omega (arith, less, occurrences_rise start interval k middle (omega (arith, to)));
  above = so.above;
}

pub lower_half : (start : ℕ) (interval : Interval) (day low high middle : ℕ) → Halved start interval day low high
    → low ≤ middle → middle < high → day ≤ occurrence start interval middle → Halved start interval day low middle
lower_half start interval day low high middle so from inside more = record {
  ordered = from;
  within = omega (arith, inside, so.within);
  below = so.below;
  above = λ k to last. omega (arith, more, occurrences_rise start interval middle k to);
}

pub all_halved : (start : ℕ) (interval : Interval) (day : ℕ) → Halved start interval day 0 day_end
all_halved start interval day = record {
  ordered = omega arith;
  within = omega arith;
  below = λ k to. absurd (omega (arith, to));
  above = λ k from to. absurd (omega (arith, from, to));
}

pub halved_all : (start : ℕ) (interval : Interval) (day low high : ℕ) → Halved start interval day low high → high ≤ low
    → IsCountAt start interval day low
halved_all start interval day low high so done = record {
  within = omega (arith, so.within, so.ordered, done);
  below = so.below;
  above = λ k from to. so.above k (omega (arith, done, from)) to;
}

-- ---- the days between two counts

-- an earlier day is reached by fewer intervals
pub counts_ordered : (start : ℕ) (interval : Interval) (span : Span) (first after : ℕ) → span.from < span.end
    → IsCountAt start interval span.from first → IsCountAt start interval span.end after → first ≤ after
counts_ordered start interval span first after some low high =
    elim (cases_lt after first) [
      | inl less ↦ absurd (omega (arith, some, low.below after less, high.above after (omega arith) (omega (arith, less, low.within))))
      | inr more ↦ more
    ]

inside_yes : (span : Span) (day : ℕ) → span.from ≤ day → day < span.end → lies_in span day ≡ true
inside_yes span day low high = grind (arith, nat_tests)

inside_low : (span : Span) (day : ℕ) → day < span.from → lies_in span day ≡ false
inside_low span day low = grind (arith, nat_tests)

inside_high : (span : Span) (day : ℕ) → span.end ≤ day → lies_in span day ≡ false
inside_high span day high = grind (arith, nat_tests)

-- no day lies in an empty span
pub inside_none : (span : Span) (day : ℕ) → span.end ≤ span.from → lies_in span day ≡ false
inside_none span day none = grind (arith, nat_tests)

is_day_yes : (day : ℕ) → IsDay day → is_day day ≡ true
is_day_yes day within = grind (arith, nat_tests)

most : most_counts ≡ day_end
unfolding most_counts
most = refl

pub recurring_from : (interval : Interval) (start : ℕ) → IsDay start → recurring interval start ≡ map (occurrence start interval) (range_with_len 0 most_counts)
unfolding recurring
recurring_from interval start within = rw (is_day_yes start within) refl

pub recurring_never : (interval : Interval) (start : ℕ) → is_day start ≡ false → recurring interval start ≡ []
unfolding recurring
recurring_never interval start none = rw none refl

-- no days are seen where the start is none
pub never_seen : (interval : Interval) (start : ℕ) (span : Span) (seen : List ℕ) → is_day start ≡ false → seen ≡ []
    → seen ≡ filter (lies_in span) (recurring interval start)
never_seen interval start span seen none is = is ∙ sym (ap (filter (lies_in span)) (recurring_never interval start none))

pub day_from : (day : ℕ) → is_day day ≡ true → IsDay day
day_from day h = (grind (arith, nat_tests), grind (arith, nat_tests))

pub recurring_seen : (start : ℕ) (interval : Interval) (span : Span) (first after : ℕ) → IsDay start → span.from < span.end
    → IsCountAt start interval span.from first → IsCountAt start interval span.end after
    → map (occurrence start interval) (range_with_len first (after - first)) ≡ filter (lies_in span) (recurring interval start)
recurring_seen start interval span first after within some low high =
    let ordered = counts_ordered start interval span first after some low high in
    let f = occurrence start interval in
    sym (ap (filter (lies_in span)) (recurring_from interval start within)
    ∙ chosen (lies_in span) f first after most_counts ordered (omega (arith, high.within, most))
    (λ k to. inside_low span (f k) (low.below k to))
    (λ k from to. inside_yes span (f k) (low.above k from (omega (arith, to, high.within))) (high.below k to))
    (λ k from to. inside_high span (f k) (high.above k from (omega (arith, to, most)))))

pub recurring_days : (occasions : Occasions) (span : Span) (after : ℕ) → IsDay occasions.start.0 → 1 ≤ span.from → span.from < span.end → span.end ≤ day_end
    → IsCountAt occasions.start.0 occasions.interval span.from occasions.first → IsCountAt occasions.start.0 occasions.interval span.end after
    → occasions.first + occasions.count ≡ after → AreDays occasions
recurring_days occasions span after start one some last low high all = record {
  start = start;
  few = omega (arith, all, high.within);
  each = λ at inside.
      (let k = occasions.first + at in
      let reached = low.above k (omega arith) (omega (arith, inside, all, high.within)) in
      let ends = high.below k (omega (arith, inside, all)) in
      (omega (arith, one, reached), omega (arith, ends, last)));
}

both : (a b : Bool) → (a && b) ≡ true → (a ≡ true) × (b ≡ true)
both true b h = (refl, h)
both false b h = absurd (false≢true h)

-- a day of a span of days
pub day_in : (span : Span) (day : ℕ) → lies_in span day ≡ true → 1 ≤ span.from → span.end ≤ day_end → IsDay day
day_in span day inside first last =
    let parts = both (leb span.from day) (ltb day span.end) inside in
    let low : span.from ≤ day = leb-true span.from day parts.0 in
    let high : day < span.end = ltb-true day span.end parts.1 in
    (omega arith, omega arith)

-- a day alone, which lies in a span or doesn't
pub one_seen : (span : Span) (day : ℕ) (seen : List ℕ) → lies_in span day ≡ true → seen ≡ day ∷ [] → seen ≡ filter (lies_in span) (day ∷ [])
one_seen span day seen inside is = is ∙ sym (ap (λ (b : Bool). cond b (day ∷ []) []) inside)

pub none_seen : (span : Span) (day : ℕ) (seen : List ℕ) → lies_in span day ≡ false → seen ≡ [] → seen ≡ filter (lies_in span) (day ∷ [])
none_seen span day seen outside is = is ∙ sym (ap (λ (b : Bool). cond b (day ∷ []) []) outside)

-- nothing lies in an empty span
pub empty_seen : (span : Span) (days seen : List ℕ) → span.end ≤ span.from → seen ≡ [] → seen ≡ filter (lies_in span) days
empty_seen span days seen none is = is ∙ sym (none_of (lies_in span) days (λ day. inside_none span day none))

-- ---- the days of a rule

module _ (period : Period) (window span : Span) (seen : List ℕ) (same : span ≡ narrowed period window) where
  pub empty_told : span.end ≤ span.from → seen ≡ [] → seen ≡ days_of period window
  unfolding days_of
  empty_told none is =
      empty_seen (narrowed period window) (days_by period.interval period (narrowed period window)) seen
      (subst (λ (s : Span). s.end ≤ s.from) same none) is

  pub recurring_told : (interval : Interval) (start : ℕ) → period.interval ≡ Some interval → start ≡ counted_from period interval.unit span
      → seen ≡ filter (lies_in span) (recurring interval start) → seen ≡ days_of period window
  unfolding days_of
  recurring_told interval start is from told =
      told
      ∙ ap (λ (day : ℕ). filter (lies_in span) (recurring interval day)) from
      ∙ ap (λ (s : Span). filter (lies_in s) (recurring interval (counted_from period interval.unit s))) same
      ∙ sym (ap (λ (i : Option Interval). filter (lies_in (narrowed period window)) (days_by i period (narrowed period window))) is)

  pub alone_told : period.interval ≡ None → seen ≡ filter (lies_in span) (option_to_list period.from) → seen ≡ days_of period window
  unfolding days_of
  alone_told is told =
      told
      ∙ ap (λ (s : Span). filter (lies_in s) (option_to_list period.from)) same
      ∙ sym (ap (λ (i : Option Interval). filter (lies_in (narrowed period window)) (days_by i period (narrowed period window))) is)
