-- The parts that are cut one after another are those of the span.
use Rattle.std.proofs.Common.{◌≡◌, ℕ, zero, suc, ◌+◌, ◌-◌, ◌*◌, ◌<◌, ◌≤◌, ◌⊎◌, inl, inr, List, [], ◌∷◌, ◌++◌, length, length-append, refl, sym, ap, ◌∙◌, arith}
use Rattle.std.proofs.lemmas.Bool.{cases_lt}
use Rattle.std.proofs.lemmas.List.{get_or_push}
use Rattle.std.proofs.Math.ListN.{get_or-append}
use Rattle.hl_time.specs.Units.{unit_start, unit_of}
use Rattle.hl_time.specs.Split.{begins, part_at, interval_at, IsSplit}
use Rattle.hl_time.specs.declared.spans.Unit as declared
use Rattle.hl_time.specs.declared.spans.Interval.{Interval}
use Rattle.hl_time.specs.declared.spans.Span.{Span}
use Rattle.hl_time.proofs.UnitLaws.{unit_start_mono, unit_start_least, unit_holds}

-- a unit that begins before the end of all days begins there
pub begins_within : (unit : declared.Unit) (index end : ℕ) → end ≤ 3_652_060 → begins unit index < end → begins unit index ≡ unit_start unit index
unfolding begins
begins_within unit index end within below = omega arith

pub begins_most : (unit : declared.Unit) (index : ℕ) → (begins unit index ≤ unit_start unit index) × (begins unit index ≤ 3_652_060)
unfolding begins
begins_most unit index = omega arith

pub begins_at_start : (unit : declared.Unit) (index : ℕ) → unit_start unit index ≤ 3_652_060 → begins unit index ≡ unit_start unit index
unfolding begins
begins_at_start unit index within = omega arith

-- a later unit begins later
pub begins_grows : (unit : declared.Unit) (index later : ℕ) → index < later → begins unit index < 3_652_060 → begins unit index < begins unit later
unfolding begins
begins_grows unit index later less below = omega (arith, unit_start_mono unit index later (omega arith))

-- few units begin before the end of all days
pub begins_index : (unit : declared.Unit) (index : ℕ) → begins unit index < 3_652_060 → index < 3_652_060
unfolding begins
begins_index unit index below = omega (arith, unit_start_least unit index)

interval_from : (interval : Interval) (index : ℕ) → (interval_at interval index).from ≡ unit_start interval.unit index
unfolding interval_at
interval_from interval index = refl

interval_whole : (interval : Interval) (index : ℕ) → interval_at interval index ≡ record { from = unit_start interval.unit index; end = begins interval.unit (index + interval.n) }
unfolding interval_at
interval_whole interval index = refl

interval_end : (interval : Interval) (index : ℕ) → (interval_at interval index).end ≡ begins interval.unit (index + interval.n)
unfolding interval_at
interval_end interval index = refl

pub record Cut (span : Span) (interval : Interval) (parts : List Span) (index from : ℕ) : Type 0 where
  pub place : index ≡ unit_of interval.unit span.from + interval.n * length parts
  pub begun : from ≡ begins interval.unit index
  pub cut : (at : ℕ) → at < length parts → part_at parts at ≡ interval_at interval (unit_of interval.unit span.from + interval.n * at)
  pub needed : (at : ℕ) → at < length parts → (part_at parts at).from < span.end

some_part : (span : Span) (interval : Interval) (count index from : ℕ) → 1 ≤ span.from → span.from < span.end → index ≡ unit_of interval.unit span.from + interval.n * count → from ≡ begins interval.unit index → span.end ≤ from → 0 < count
some_part span interval zero index from first some place begun done =
    let here : index ≡ unit_of interval.unit span.from = omega arith in
    absurd (omega (arith, begins_most interval.unit index, ap (unit_start interval.unit) here, (unit_holds interval.unit span.from first).0))
some_part span interval (suc count) index from first some place begun done = omega arith

pub is_split : (span : Span) (interval : Interval) (parts : List Span) (index from : ℕ) → 1 ≤ span.from → span.from < span.end → span.end ≤ 3_652_060 → Cut span interval parts index from → span.end ≤ from → IsSplit span interval parts
is_split span interval parts index from first some within so done =
    let unit = interval.unit in
    let start = unit_of interval.unit span.from in
    let any = some_part span interval (length parts) index from first some so.place so.begun done in
    let last = length parts - 1 in
    let at_first : start + interval.n * 0 ≡ start = omega arith in
    let at_last : start + interval.n * last + interval.n ≡ index = last_place interval.n start (length parts) index any so.place in
    record {
      some = any;
      first = ap (λ (s : Span). s.from) (so.cut 0 any) ∙ interval_from interval (start + interval.n * 0) ∙ ap (unit_start unit) at_first;
      whole = λ at below. (start + interval.n * at, ap (λ (s : Span). s.from) (so.cut at below) ∙ interval_from interval (start + interval.n * at), ap (λ (s : Span). s.end) (so.cut at below) ∙ interval_end interval (start + interval.n * at));
      joined = λ at below.
          (let next : start + interval.n * (at + 1) ≡ start + interval.n * at + interval.n = omega arith in
          let there = ap (λ (s : Span). s.from) (so.cut (at + 1) below) ∙ interval_from interval (start + interval.n * (at + 1)) ∙ ap (unit_start unit) next in
          let inside : unit_start unit (start + interval.n * at + interval.n) ≤ 3_652_060 = omega (arith, so.needed (at + 1) below, there) in
          ap (λ (s : Span). s.end) (so.cut at (omega arith)) ∙ interval_end interval (start + interval.n * at) ∙ begins_at_start unit _ inside ∙ sym there);
      last = (so.needed last (omega arith), (let here = ap (λ (s : Span). s.end) (so.cut last (omega arith)) ∙ interval_end interval (start + interval.n * last) ∙ ap (begins unit) at_last in omega (arith, here, so.begun)));
    } where
      last_place : (n start count index : ℕ) → 0 < count → index ≡ start + n * count → start + n * (count - 1) + n ≡ index
      last_place n start zero index any place = absurd (omega arith)
      last_place n start (suc count) index any place = let back : suc count - 1 ≡ count = omega arith in rw back (omega arith)

pushed : (parts : List Span) (part : Span) (at : ℕ) → at < length (parts ++ part ∷ []) → ((at < length parts) × (part_at (parts ++ part ∷ []) at ≡ part_at parts at)) ⊎ ((at ≡ length parts) × (part_at (parts ++ part ∷ []) at ≡ part))
pushed parts part at below =
    elim (cases_lt at (length parts)) [
      | inl old ↦ inl (old, get_or-append parts (part ∷ []) _ at old)
      | inr new ↦ (let here : at ≡ length parts = omega (arith, length-append parts (part ∷ [])) in inr (here, get_or_push parts part _ at (sym here)))
    ]

-- one part more is cut
pub cut_more : (span : Span) (interval : Interval) (parts more : List Span) (index from next : ℕ) → span.end ≤ 3_652_060 → Cut span interval parts index from → from < span.end → next ≡ begins interval.unit (index + interval.n) → more ≡ parts ++ (record { from = from; end = next }) ∷ [] → Cut span interval more (index + interval.n) next
cut_more span interval parts more index from next within so below is same =
    let part : Span = record { from = from; end = next } in
    let start = unit_of interval.unit span.from in
    let grown : length more ≡ length parts + 1 = rw same (length-append parts (part ∷ [])) in
    let starts : from ≡ unit_start interval.unit index = so.begun ∙ begins_within interval.unit index span.end within (omega (arith, so.begun)) in
    let made : interval_at interval index ≡ part = rw (← is, ← starts) at (interval_whole interval index) in
    record {
      place = product interval.n start (length parts) (length more) index so.place grown;
      begun = is;
      cut = λ at inside. elim (pushed parts part at (rw same at inside)) [
        | inl old ↦ rw same (old.1 ∙ so.cut at old.0)
        | inr new ↦ rw same (new.1 ∙ sym made ∙ ap (interval_at interval) (so.place ∙ ap (λ n. start + interval.n * n) (sym new.0)))
      ];
      needed = λ at inside. elim (pushed parts part at (rw same at inside)) [
        | inl old ↦ rw (same, old.1) (so.needed at old.0)
        | inr new ↦ rw (same, new.1) below
      ];
    } where
      product : (n start count more index : ℕ) → index ≡ start + n * count → more ≡ count + 1 → index + n ≡ start + n * more
      product n start count more index place grown = rw (place, grown) (omega arith)
