-- A column of all days between its bounds has the sums of the report's span.
use Rattle.std.proofs.Common.{◌≡◌, ℕ, ◌<◌, ◌≤◌, min, Bool, true, false, cond, ◌&&◌, nat_le, nat_lt, List, [], ◌∷◌, map, filter, Option, Some, None, unwrap_or, refl, sym, ap, subst, ◌∙◌, arith}
use Rattle.std.specs.List.{AllByRecursion, fold}
use Rattle.std.specs.Option.{option_map, option_or}
use Rattle.std.specs.Str.{bytes_eq}
use Rattle.std.proofs.lemmas.Bool.Decides.{nat_tests}
use Rattle.hl_time.specs.Calendar.{day_end}
use Rattle.hl_time.specs.declared.spans.Span.{Span}
use Rattle.query.specs.Matching.{least, later}
use Rattle.index_cells.specs.Days.{holds}
use Rattle.index_cells.specs.Posted.{AreDated, IsPlain, days_in, posted_in}
use Rattle.index_cells.proofs.Plainly.{takings_are}
use Rattle.report_cells.specs.Report.{accounts_in, counts, rows_in, totals_in}
use Rattle.report_cells.specs.Taken.{Taken, mixed_in}
use Rattle.report_cells.specs.declared.reach.Reach.{Reach}
use Rattle.report_cells.specs.declared.reach.Reach.TheVariants.{Within, UpTo}
use Rattle.report_takings.specs.Asking.{question_of}
use Rattle.report_takings.specs.Days.{day_after}
use Rattle.report_takings.specs.Takings.{is_historical, takings_of}
use Rattle.report_takings.specs.declared.scope.Scope.{Scope}
use Rattle.report_options.specs.declared.options.Start.{Start}
use Rattle.kept_reports.specs.Alike.{wide_column}
use Rattle.kept_reports.proofs.Spanning.{ends_in, with_ends}

-- ---- the ends of some days

abbrev IsUpFrom : Option ℕ → ℕ → Type 0
IsUpFrom None x = ⊥
IsUpFrom (Some a) x = a ≤ x

abbrev IsUpTo : Option ℕ → ℕ → Type 0
IsUpTo None x = ⊥
IsUpTo (Some a) x = x ≤ a

from_least : (o : Option ℕ) (d x : ℕ) → IsUpFrom o x → IsUpFrom (least o (Some d)) x
from_least None d x h = absurd h
from_least (Some a) d x h = omega (arith, h)

from_new : (o : Option ℕ) (d : ℕ) → IsUpFrom (least o (Some d)) d
from_new None d = omega arith
from_new (Some a) d = omega arith

from_stays : (ds : List ℕ) (o : Option ℕ) (x : ℕ) → IsUpFrom o x → IsUpFrom (fold least o (map (λ (d : ℕ). Some d) ds)) x
from_stays [] o x h = h
from_stays (d ∷ ds) o x h = from_stays ds (least o (Some d)) x (from_least o d x h)

all_from : (ds : List ℕ) (o : Option ℕ) → AllByRecursion (λ x. IsUpFrom (fold least o (map (λ (d : ℕ). Some d) ds)) x) ds
all_from [] o = tt
all_from (d ∷ ds) o = (from_stays ds (least o (Some d)) d (from_new o d), all_from ds (least o (Some d)))

to_later : (o : Option ℕ) (d x : ℕ) → IsUpTo o x → IsUpTo (later o (Some d)) x
to_later None d x h = absurd h
to_later (Some a) d x h = omega (arith, h)

to_new : (o : Option ℕ) (d : ℕ) → IsUpTo (later o (Some d)) d
to_new None d = omega arith
to_new (Some a) d = omega arith

to_stays : (ds : List ℕ) (o : Option ℕ) (x : ℕ) → IsUpTo o x → IsUpTo (fold later o (map (λ (d : ℕ). Some d) ds)) x
to_stays [] o x h = h
to_stays (d ∷ ds) o x h = to_stays ds (later o (Some d)) x (to_later o d x h)

all_to : (ds : List ℕ) (o : Option ℕ) → AllByRecursion (λ x. IsUpTo (fold later o (map (λ (d : ℕ). Some d) ds)) x) ds
all_to [] o = tt
all_to (d ∷ ds) o = (to_stays ds (later o (Some d)) d (to_new o d), all_to ds (later o (Some d)))

of_days : (P : ℕ → Type 0) (ts : List Taken) → AllByRecursion P (map (λ (t : Taken). t.day) ts) → AllByRecursion (λ (t : Taken). P t.day) ts
of_days P [] h = tt
of_days P (t ∷ ts) h = (h.0, of_days P ts h.1)

-- ---- one day

le_true : (a x : ℕ) → a ≤ x → nat_le a x ≡ true
le_true a x h = grind (arith, nat_tests, h)

lt_true : (x a : ℕ) → x < a → nat_lt x a ≡ true
lt_true x a h = grind (arith, nat_tests, h)

capped : (x e : ℕ) → x < day_end → nat_lt x (min e day_end) ≡ nat_lt x e
capped x e h = grind (arith, nat_tests, h)

from_same : (from first : Option ℕ) (other x : ℕ) → IsUpFrom first x → nat_le (unwrap_or from 0) x ≡ nat_le (unwrap_or (option_or from first) other) x
from_same (Some a) first other x h = refl
from_same None None other x h = absurd h
from_same None (Some a) other x h = le_true 0 x (omega arith) ∙ sym (le_true a x h)

end_same : (end last : Option ℕ) (other x : ℕ) → x < day_end → IsUpTo last x → nat_lt x (unwrap_or end day_end) ≡ nat_lt x (unwrap_or (option_or end (option_map day_after last)) other)
end_same (Some e) last other x lt h = refl
end_same None None other x lt h = absurd h
end_same None (Some l) other x lt h = lt_true x day_end lt ∙ sym (lt_true x (day_after l) (omega (arith, lt, h)))

-- both columns begin before a day, or neither does, and so they end
record SameDay (wide span : Span) (x : ℕ) : Type 0 where
  from : nat_le wide.from x ≡ nat_le span.from x
  end : nat_lt x wide.end ≡ nat_lt x span.end
  early : x < day_end

same_counts : (reach : Reach) (wide span : Span) (t : Taken) → SameDay wide span t.day → counts reach wide t ≡ counts reach span t
same_counts Within wide span t h = λ i. h.from i && h.end i
same_counts UpTo wide span t h = h.end

same_held : (historical : Bool) (wide span : Span) (x : ℕ) → SameDay wide span x
    → holds (record { from = cond historical 0 wide.from; end = min wide.end day_end }) x ≡ holds (record { from = cond historical 0 span.from; end = min span.end day_end }) x
same_held true wide span x h = λ i. nat_le 0 x && (capped x wide.end h.early ∙ h.end ∙ sym (capped x span.end h.early)) i
same_held false wide span x h = λ i. h.from i && (capped x wide.end h.early ∙ h.end ∙ sym (capped x span.end h.early)) i

-- ---- takings on such days

filter_same : (p q : Taken → Bool) (ts : List Taken) → AllByRecursion (λ (t : Taken). p t ≡ q t) ts → filter p ts ≡ filter q ts
filter_same p q [] h = refl
filter_same p q (t ∷ ts) h = λ i. cond (h.0 i) (t ∷ filter_same p q ts h.1 i) (filter_same p q ts h.1 i)

all_so : (P Q : Taken → Type 0) → ((t : Taken) → P t → Q t) → (ts : List Taken) → AllByRecursion P ts → AllByRecursion Q ts
all_so P Q so [] h = tt
all_so P Q so (t ∷ ts) h = (so t h.0, all_so P Q so ts h.1)

all_left : (P : Taken → Type 0) (p : Taken → Bool) (ts : List Taken) → AllByRecursion P ts → AllByRecursion P (filter p ts)
all_left P p [] h = tt
all_left P p (t ∷ ts) h =
    let rest = all_left P p ts h.1 in
    elim (p t) as (λ b. AllByRecursion P (cond b (t ∷ filter p ts) (filter p ts))) [ true ↦ (h.0, rest) | false ↦ rest ]

days_same : (wide span : Span) (first last : ℕ → Type 0) (ts : List Taken) → ((x : ℕ) → first x → last x → x < day_end → SameDay wide span x)
    → AllByRecursion (λ (t : Taken). first t.day) ts → AllByRecursion (λ (t : Taken). last t.day) ts → AllByRecursion (λ (t : Taken). t.day < day_end) ts
    → AllByRecursion (λ (t : Taken). SameDay wide span t.day) ts
days_same wide span first last [] so a b c = tt
days_same wide span first last (t ∷ ts) so a b c = (so t.day a.0 b.0 c.0, days_same wide span first last ts so a.1 b.1 c.1)

module _ (reach : Reach) (wide span : Span) (us : List Taken) (same : AllByRecursion (λ (t : Taken). SameDay wide span t.day) us) where
  abbrev Same : Taken → Type 0
  Same t = SameDay wide span t.day

  own_same : (account : List ℕ) → filter (λ t. bytes_eq t.account account && counts reach wide t) us ≡ filter (λ t. bytes_eq t.account account && counts reach span t) us
  own_same account =
      filter_same (λ t. bytes_eq t.account account && counts reach wide t) (λ t. bytes_eq t.account account && counts reach span t) us
      (all_so Same (λ t. (bytes_eq t.account account && counts reach wide t) ≡ (bytes_eq t.account account && counts reach span t))
      (λ t h. ap (λ b. bytes_eq t.account account && b) (same_counts reach wide span t h)) us same)

  rows_same : rows_in reach (wide ∷ []) us ≡ rows_in reach (span ∷ []) us
  rows_same = λ i. map (λ account. (account, mixed_in (own_same account i) ∷ [])) (accounts_in us)

  totals_same : totals_in reach (wide ∷ []) us ≡ totals_in reach (span ∷ []) us
  totals_same = λ i. mixed_in (filter_same (counts reach wide) (counts reach span) us (all_so Same (λ t. counts reach wide t ≡ counts reach span t) (λ t h. same_counts reach wide span t h) us same) i) ∷ []

-- ---- of a report

shown_alone : (start : Start) (column : Span) → days_in start (column ∷ []) ≡ record { from = cond (is_historical start) 0 column.from; end = min column.end day_end }
shown_alone start column = refl

module _ (scope : Scope) (plain : IsPlain scope (question_of scope)) (dated : AreDated scope.book.now.txns) where
  abbrev ts : List Taken
  ts = posted_in scope.book.now.txns

  abbrev wide : Span
  wide = wide_column scope.options.now.bounds

  -- the span of the report
  abbrev pub span : Span
  span = with_ends scope.options.now.bounds.from scope.options.now.bounds.end (ends_in ts) scope.day.0

  one_day : (x : ℕ) → IsUpFrom (ends_in ts).first x → IsUpTo (ends_in ts).last x → x < day_end → SameDay wide span x
  one_day x a b lt = record {
    from = from_same scope.options.now.bounds.from (ends_in ts).first scope.day.0 x a;
    end = end_same scope.options.now.bounds.end (ends_in ts).last scope.day.0 x lt b;
    early = lt;
  }

  each_day : AllByRecursion (λ (t : Taken). SameDay wide span t.day) ts
  each_day =
      days_same wide span (IsUpFrom (ends_in ts).first) (IsUpTo (ends_in ts).last) ts one_day
      (of_days (IsUpFrom (ends_in ts).first) ts (all_from (map (λ (t : Taken). t.day) ts) None))
      (of_days (IsUpTo (ends_in ts).last) ts (all_to (map (λ (t : Taken). t.day) ts) None))
      dated

  abbrev start : Start
  start = scope.options.now.start

  held_same : AllByRecursion (λ (t : Taken). holds (days_in start (wide ∷ [])) t.day ≡ holds (days_in start (span ∷ [])) t.day) ts
  held_same =
      all_so (λ t. SameDay wide span t.day) (λ t. holds (days_in start (wide ∷ [])) t.day ≡ holds (days_in start (span ∷ [])) t.day)
      (λ t h. same_held (is_historical start) wide span t.day h) ts each_day

  -- what it takes
  pub takings_same : takings_of (question_of scope) (wide ∷ []) ≡ takings_of (question_of scope) (span ∷ [])
  takings_same =
      takings_are scope plain dated (wide ∷ [])
      ∙ filter_same (λ t. holds (days_in start (wide ∷ [])) t.day) (λ t. holds (days_in start (span ∷ [])) t.day) ts held_same
      ∙ sym (takings_are scope plain dated (span ∷ []))

  taken_days : AllByRecursion (λ (t : Taken). SameDay wide span t.day) (takings_of (question_of scope) (span ∷ []))
  taken_days =
      subst (λ (us : List Taken). AllByRecursion (λ (t : Taken). SameDay wide span t.day) us) (sym (takings_are scope plain dated (span ∷ [])))
      (all_left (λ t. SameDay wide span t.day) (λ t. holds (days_in start (span ∷ [])) t.day) ts each_day)

  -- and its sums
  pub wide_rows : (reach : Reach) → rows_in reach (wide ∷ []) (takings_of (question_of scope) (wide ∷ [])) ≡ rows_in reach (span ∷ []) (takings_of (question_of scope) (span ∷ []))
  wide_rows reach =
      ap (rows_in reach (wide ∷ [])) takings_same ∙ rows_same reach wide span (takings_of (question_of scope) (span ∷ [])) taken_days

  pub wide_totals : (reach : Reach) → totals_in reach (wide ∷ []) (takings_of (question_of scope) (wide ∷ [])) ≡ totals_in reach (span ∷ []) (takings_of (question_of scope) (span ∷ []))
  wide_totals reach =
      ap (totals_in reach (wide ∷ [])) takings_same ∙ totals_same reach wide span (takings_of (question_of scope) (span ∷ [])) taken_days
