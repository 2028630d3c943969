-- What a plain report takes is what is posted on the days that count.
use Rattle.std.proofs.Common.{◌≡◌, ◌↔◌, ℕ, ◌^◌, ◌<◌, min, Bool, true, false, cond, not, ◌&&◌, nat_le, nat_lt, List, [], ◌∷◌, ◌++◌, map, filter, None, refl, sym, ap, ◌∙◌, append-nil, arith}
use Rattle.std.specs.List.{AllByRecursion}
use Rattle.std.proofs.lemmas.Bool.{false≢true}
use Rattle.std.proofs.lemmas.Bool.Decides.{nat_tests}
use Rattle.hl_time.specs.Calendar.{day_end}
use Rattle.hl_time.specs.declared.spans.Span.{Span}
use Rattle.query.specs.Matching.{depth_in, means_posting, means_boundless}
use Rattle.query.specs.OwnLetters.{own_in}
use Rattle.query_terms.specs.Sought.{known_of}
use Rattle.query_terms.specs.declared.kinds.Term.{Term}
use Rattle.report_cells.specs.Taken.{Taken}
use Rattle.report_options.specs.declared.options.Start.{Start}
use Rattle.report_options.specs.declared.options.Start.TheVariants as starts
use Rattle.report_takings.specs.Asking.{Question, entries, question_of}
use Rattle.report_takings.specs.Costs.{is_at_cost, moved}
use Rattle.report_takings.specs.Cuts.{cut_to}
use Rattle.report_takings.specs.Entries.{Entry, day_in}
use Rattle.report_takings.specs.Takings.{before, is_chosen, is_historical, is_kept, names_earlier, shown_in, taken, taken_as, takings_of}
use Rattle.report_takings.specs.declared.entries.Part.TheVariants.{Counted, Named}
use Rattle.report_takings.specs.declared.scope.Scope.{Scope}
use Rattle.index_cells.specs.Days.{holds}
use Rattle.index_cells.specs.Posted.{posted, posted_in, AreDated, IsPlain, days_in}
use Rattle.index_cells.specs.Tells.{taken_on}

-- ---- lists

none_pass : (p : Entry → Bool) → ((e : Entry) → p e ≡ false) → (es : List Entry) → filter p es ≡ []
none_pass p none [] = refl
none_pass p none (e ∷ es) = ap (λ (b : Bool). cond b (e ∷ filter p es) (filter p es)) (none e) ∙ none_pass p none es

mapped_as : (f g : Entry → Taken) → ((e : Entry) → f e ≡ g e) → (es : List Entry) → map f es ≡ map g es
mapped_as f g same [] = refl
mapped_as f g same (e ∷ es) = (λ i. same e i ∷ mapped_as f g same es i)

-- those that pass, where days are days of the calendar
passing_as : (p : Entry → Bool) (days : Span) → ((e : Entry) → day_in e < day_end → p e ≡ holds days (day_in e)) → (es : List Entry) → AllByRecursion (λ (t : Taken). t.day < day_end) (map posted es) → map posted (filter p es) ≡ taken_on days (map posted es)
passing_as p days same [] dated = refl
passing_as p days same (e ∷ es) dated =
    ap (λ (b : Bool). map posted (cond b (e ∷ filter p es) (filter p es))) (same e dated.0)
    ∙ elim (holds days (day_in e)) as (λ b. map posted (cond b (e ∷ filter p es) (filter p es)) ≡ cond b (posted e ∷ taken_on days (map posted es)) (taken_on days (map posted es))) [
      | true ↦ ap (λ (ts : List Taken). posted e ∷ ts) (passing_as p days same es dated.1)
      | false ↦ passing_as p days same es dated.1
    ]

-- ---- days

within_shown : (from end day : ℕ) → day < day_end → (nat_le from day && nat_lt day end) ≡ (nat_le from day && nat_lt day (min end day_end))
within_shown from end day h = grind (arith, nat_tests, h)

before_end : (end day : ℕ) → day < day_end → nat_lt day end ≡ (nat_le 0 day && nat_lt day (min end day_end))
before_end end day h = grind (arith, nat_tests, h)

either_way : (b : Bool) → cond b true false ≡ b
either_way true = refl
either_way false = refl

chosen_by : (historical : Bool) (shown : Span) (day : ℕ) (all boundless : Bool) → day < day_end → all ≡ true → boundless ≡ true
    → cond historical (cond (nat_lt day shown.end) boundless false) (cond (nat_le shown.from day && nat_lt day shown.end) all false) ≡ holds (record { from = cond historical 0 shown.from; end = min shown.end day_end }) day
chosen_by true shown day all boundless h is also =
    ap (λ (b : Bool). cond (nat_lt day shown.end) b false) also ∙ either_way (nat_lt day shown.end) ∙ before_end shown.end day h
chosen_by false shown day all boundless h is also =
    ap (λ (b : Bool). cond (nat_le shown.from day && nat_lt day shown.end) b false) is ∙ either_way (nat_le shown.from day && nat_lt day shown.end) ∙ within_shown shown.from shown.end day h

-- ---- a plain report

module _ (scope : Scope) (plain : IsPlain scope (question_of scope)) (dated : AreDated scope.book.now.txns) (columns : List Span) where
  abbrev asked : Question
  asked = question_of scope

  means_all : (e : Entry) → asked.means e ≡ true
  means_all e = ap (λ (terms : List Term). means_posting (known_of scope.query.now.regexes.items) (own_in scope.types.now) terms e.0 e.1) plain.terms

  means_all_boundless : (e : Entry) → asked.means_boundless e ≡ true
  means_all_boundless e = ap (λ (terms : List Term). means_boundless (known_of scope.query.now.regexes.items) (own_in scope.types.now) terms e.0 e.1) plain.terms

  no_depth : asked.depth ≡ None
  no_depth = ap depth_in plain.terms

  taken_so : (e : Entry) → taken Counted asked e ≡ posted e
  taken_so e = (λ i. record { account = cut_to (no_depth i) e.0.account; day = day_in e; amount = moved (plain.written i) e.0 })

  none_named : (e : Entry) → is_kept Named asked (shown_in columns) e ≡ false
  none_named e = ap (λ (b : Bool). cond b (is_chosen starts.Historical asked (before (shown_in columns)) e) false) plain.later

  chosen_so : (e : Entry) → day_in e < day_end → is_kept Counted asked (shown_in columns) e ≡ holds (days_in asked.options.start columns) (day_in e)
  chosen_so e h = chosen_by (is_historical asked.options.start) (shown_in columns) (day_in e) (asked.means e) (asked.means_boundless e) h (means_all e) (means_all_boundless e)

  pub takings_are : takings_of asked columns ≡ taken_on (days_in asked.options.start columns) (posted_in scope.book.now.txns)
  takings_are =
      ap (λ (es : List Entry). taken_as Counted asked columns ++ map (taken Named asked) es) (none_pass (is_kept Named asked (shown_in columns)) none_named (entries asked))
      ∙ append-nil (taken_as Counted asked columns)
      ∙ mapped_as (taken Counted asked) posted taken_so (filter (is_kept Counted asked (shown_in columns)) (entries asked))
      ∙ passing_as (is_kept Counted asked (shown_in columns)) (days_in asked.options.start columns) chosen_so (entries asked) dated

-- the days that count end by the end of the calendar
pub days_early : (start : Start) (columns : List Span) (days : Span) → days ≡ days_in start columns → days.end < 2 ^ 22
days_early start columns days is = omega (arith, ap (λ (s : Span). s.end) is)

-- ---- whether a report is plain

module _ (scope : Scope) where
  pub some_terms : (empty : Bool) → ((empty ≡ true) ↔ (scope.query.now.terms.items ≡ [])) → empty ≡ false → ((false ≡ true) ↔ IsPlain scope (question_of scope))
  some_terms empty says none = (λ h. absurd (false≢true h), λ plain. absurd (false≢true (sym none ∙ says.1 plain.terms)))

  pub at_cost : (costs : Bool) → costs ≡ is_at_cost scope.options.now → costs ≡ true → ((false ≡ true) ↔ IsPlain scope (question_of scope))
  at_cost costs says is = (λ h. absurd (false≢true h), λ plain. absurd (false≢true (sym plain.written ∙ sym says ∙ is)))

  pub plain_where : (empty costs earlier : Bool) → ((empty ≡ true) ↔ (scope.query.now.terms.items ≡ [])) → costs ≡ is_at_cost scope.options.now → earlier ≡ names_earlier (question_of scope) → empty ≡ true → costs ≡ false → ((not earlier ≡ true) ↔ IsPlain scope (question_of scope))
  plain_where empty costs true none cost named is written =
      (λ h. absurd (false≢true h), λ plain. absurd (false≢true (sym plain.later ∙ sym named)))
  plain_where empty costs false none cost named is written =
      (λ h. record { terms = none.0 is; written = sym cost ∙ written; later = sym named }, λ plain. refl)
