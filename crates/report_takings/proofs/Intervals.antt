-- The whole intervals that hold a span are its parts.
use Rattle.std.proofs.Common.{◌≡◌, ℕ, ◌+◌, ◌-◌, ◌*◌, ◌/◌, ◌%◌, ◌<◌, ◌≤◌, true, false, cond, inl, inr, List, [], ◌∷◌, length, Some, refl, sym, ap, ◌∙◌, arith, div-add-mod', mod-lt, mul-le-mul_left}
use Rattle.std.proofs.lemmas.Bool.{cases_lt}
use Rattle.std.proofs.lemmas.Bool.Decides.{nat_tests}
use Rattle.std.proofs.lemmas.List.FromFn.{get_or-map-range_with_len, length-map-range_with_len}
use Rattle.hl_time.specs.Periods.{is_within}
use Rattle.hl_time.specs.Split.{begins, part_at, interval_at, IsSplit}
use Rattle.hl_time.specs.Units.{unit_start, unit_of}
use Rattle.hl_time.specs.declared.spans.Interval.{Interval}
use Rattle.hl_time.specs.declared.spans.Span.{Span}
use Rattle.hl_time.specs.declared.spans.Unit as declared
use Rattle.hl_time.proofs.UnitLaws.{unit_start_mono, unit_holds}
use Rattle.hl_time.proofs.SplitLaws.{is_split}
use Rattle.report_takings.specs.Columns.{first_unit, interval_count, intervals_of, cut_into}
use Rattle.report_takings.proofs.Unique.{split_once}

begins_past : (unit : declared.Unit) (index end : ℕ) → end ≤ unit_start unit index → end ≤ 3_652_060 → end ≤ begins unit index
unfolding begins
begins_past unit index end past within = omega arith

starts_at : (interval : Interval) (index : ℕ) → (interval_at interval index).from ≡ unit_start interval.unit index
unfolding interval_at
starts_at interval index = refl

-- so many whole intervals reach to a unit and no further
reach : (n most q : ℕ) → 1 ≤ n → q ≡ most / n → (n * q ≤ most) × (most < n * q + n)
reach n most q some is =
    let parts : most / n * n + most % n ≡ most = div-add-mod' most n in
    let rest = mod-lt most some in
    let whole : n * q ≡ most / n * n = ap (λ m. n * m) is ∙ commuted n (most / n) in
    (omega (arith, parts, whole), omega (arith, parts, rest, whole)) where
      commuted : (a b : ℕ) → a * b ≡ b * a
      commuted a b = omega arith

module _ (interval : Interval) (span : Span) (some : 1 ≤ interval.n) (first : 1 ≤ span.from) (any : span.from < span.end) (within : span.end ≤ 3_652_060) where
  abbrev last_unit : ℕ
  last_unit = unit_of interval.unit (span.end - 1)

  abbrev whole : ℕ
  whole = (last_unit - first_unit interval span) / interval.n

  abbrev parts : List Span
  parts = intervals_of interval span

  -- the first unit is no later than the last
  ordered : first_unit interval span ≤ last_unit
  ordered =
      elim (cases_lt last_unit (first_unit interval span)) [
        | inl later ↦ absurd (omega (arith, unit_start_mono interval.unit (last_unit + 1) (first_unit interval span) (omega arith), (unit_holds interval.unit span.from first).0, (unit_holds interval.unit (span.end - 1) (omega arith)).1))
        | inr fine ↦ fine
      ]

  reached : (interval.n * whole ≤ last_unit - first_unit interval span) × (last_unit - first_unit interval span < interval.n * whole + interval.n)
  reached = reach interval.n (last_unit - first_unit interval span) whole some refl

  count : length parts ≡ whole + 1
  count = length-map-range_with_len (λ at. interval_at interval (first_unit interval span + interval.n * at)) 0 (interval_count interval span)

  cut : (at : ℕ) → at < length parts → part_at parts at ≡ interval_at interval (first_unit interval span + interval.n * at)
  cut at below = get_or-map-range_with_len (λ n. interval_at interval (first_unit interval span + interval.n * n)) 0 (interval_count interval span) at at (record { from = 0; end = 0 }) (omega (arith, count)) (omega arith)

  needed : (at : ℕ) → at < length parts → (part_at parts at).from < span.end
  needed at below =
      let less : interval.n * at ≤ interval.n * whole = mul-le-mul_left interval.n (omega (arith, count)) in
      let here = ap (λ (s : Span). s.from) (cut at below) ∙ starts_at interval (first_unit interval span + interval.n * at) in
      omega (arith, here, unit_start_mono interval.unit (first_unit interval span + interval.n * at) last_unit (omega (arith, less, reached.0, ordered)), (unit_holds interval.unit (span.end - 1) (omega arith)).0)

  all_reached : span.end ≤ unit_start interval.unit (first_unit interval span + interval.n * length parts)
  all_reached =
      let more : interval.n * length parts ≡ interval.n * whole + interval.n = ap (λ m. interval.n * m) count ∙ one_more interval.n whole in
      omega (arith, unit_start_mono interval.unit (last_unit + 1) (first_unit interval span + interval.n * length parts) (omega (arith, more, reached.1, ordered)), (unit_holds interval.unit (span.end - 1) (omega arith)).1) where
        one_more : (n q : ℕ) → n * (q + 1) ≡ n * q + n
        one_more n q = omega arith

  pub intervals_are_split : IsSplit span interval parts
  intervals_are_split =
      is_split span interval parts (first_unit interval span + interval.n * length parts) (begins interval.unit (first_unit interval span + interval.n * length parts)) first any within
      (record { place = refl; begun = refl; cut = cut; needed = needed })
      (begins_past interval.unit (first_unit interval span + interval.n * length parts) span.end all_reached within)

-- the parts of a span whose days are days of the calendar
pub split_is : (interval : Interval) (span : Span) (cut_parts : List Span) → 1 ≤ interval.n → is_within span ≡ true → IsSplit span interval cut_parts → cut_parts ≡ intervals_of interval span
split_is interval span cut_parts some inside split =
    let bounds = bounds_of span inside in
    split_once span interval cut_parts (intervals_of interval span) split (intervals_are_split interval span some bounds.0 bounds.1.0 bounds.1.1) where
      bounds_of : (s : Span) → is_within s ≡ true → (1 ≤ s.from) × ((s.from < s.end) × (s.end ≤ 3_652_060))
      bounds_of s e = (grind (arith, nat_tests), (grind (arith, nat_tests), grind (arith, nat_tests)))

-- where it is cut
pub cut_whole : (interval : Interval) (span : Span) (cut_parts : List Span) → is_within span ≡ true → cut_parts ≡ intervals_of interval span → cut_parts ≡ cut_into (Some interval) span
cut_whole interval span cut_parts inside e = e ∙ sym (ap (λ t. cond t (intervals_of interval span) (span ∷ [])) inside)

-- where it isn't
pub cut_alone : (interval : Interval) (span : Span) (cut_parts : List Span) → is_within span ≡ false → cut_parts ≡ span ∷ [] → cut_parts ≡ cut_into (Some interval) span
cut_alone interval span cut_parts outside e = e ∙ sym (ap (λ t. cond t (intervals_of interval span) (span ∷ [])) outside)
