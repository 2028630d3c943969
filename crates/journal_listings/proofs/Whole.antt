-- Where nothing is asked the whole book is listed.
use Rattle.std.proofs.Common.{◌≡◌, ℕ, ◌+◌, ◌<◌, ◌≤◌, max, min, Bool, true, false, cond, ◌&&◌, List, [], ◌∷◌, ◌++◌, map, filter, Option, Some, None, refl, sym, ap, subst, ◌∙◌, arith}
use Rattle.std.specs.Prelude.{nat_le, nat_lt, unwrap_or}
use Rattle.std.specs.List.{AllByRecursion, flat_map, fold, slice_get}
use Rattle.std.specs.Option.{option_map, option_or}
use Rattle.std.proofs.Math.Bool.{and-true}
use Rattle.std.proofs.lemmas.Bool.{and_from, le-leb, lt-ltb}
use Rattle.std.proofs.lemmas.List.{map-append}
use Rattle.std.proofs.lemmas.Option.{slice_get-map}
use Rattle.hl_time.specs.Calendar.{IsDay}
use Rattle.hl_time.specs.declared.spans.Span.{Span}
use Rattle.book.specs.Accounts.{account_cmp, accounts_of}
use Rattle.book.specs.Order.{each_once}
use Rattle.book.specs.Postings.{postings_of}
use Rattle.book.specs.declared.style.Styles.{Styles}
use Rattle.book.specs.declared.transaction.Posting.{Posting}
use Rattle.book.specs.declared.transaction.Txn.{Txn}
use Rattle.journal_printer.specs.Journal.{styled, spaced_text, chosen_text, journal_text}
use Rattle.journal_printer.specs.Order.{Name, names_in_order, is_chosen}
use Rattle.journal_printer.specs.Texts.{Shaping}
use Rattle.journal_printer.specs.declared.detail.Detail.{Detail}
use Rattle.query.specs.Matching.{is_from, is_before, later, least, from_in, end_in, depth_in, dateless, matches, term_holds_of, means_posting}
use Rattle.query.specs.OwnLetters.{own_in}
use Rattle.query_terms.specs.Sought.{known_of}
use Rattle.report_takings.specs.Asking.{Question, entries, question_of}
use Rattle.report_takings.specs.Cuts.{cut_to}
use Rattle.report_takings.specs.Days.{least_of, greatest_of, day_after}
use Rattle.report_takings.specs.Entries.{Entry, entries_in, entries_of, day_in}
use Rattle.report_takings.specs.Spans.{span_of}
use Rattle.report_takings.specs.Takings.{holds}
use Rattle.report_takings.specs.declared.scope.Scope.{Scope}
use Rattle.journal_listings.specs.Listed.{account_lines, is_listed, account_shown, accounts_shown, accounts_text}
use Rattle.journal_listings.specs.Printed.{is_printed, detail_of, print_text}
use Rattle.journal_listings.specs.Unasked.{AsksNothing, AreDays}

-- ---- transactions

each_printed : (scope : Scope) → AsksNothing scope → (t : Txn) → is_printed (question_of scope) t ≡ true
each_printed scope asks t = λ i.
    (is_from (later (asks.from i) (from_in (asks.terms i))) t.day.0 && is_before (least (asks.end i) (end_in (asks.terms i))) t.day.0)
    && matches (term_holds_of (known_of scope.query.now.regexes.items) (own_in scope.types.now) t) (asks.terms i)

-- what is passed over is empty
one_kept : (p : Txn → Bool) (f : Option Txn → List ℕ) → ((t : Txn) → p t ≡ true) → f None ≡ [] → (o : Option Txn) → cond (unwrap_or (option_map p o) false) (f o) [] ≡ f o
one_kept p f each empty None = sym empty
one_kept p f each empty (Some t) = ap (λ b. cond b (f (Some t)) []) (each t)

filtered : (p : Name → Bool) (f : Name → List ℕ) (names : List Name) → flat_map f (filter p names) ≡ flat_map (λ name. cond (p name) (f name) []) names
filtered p f [] = refl
filtered p f (name ∷ names) =
    elim (p name) as (λ b. flat_map f (cond b (name ∷ filter p names) (filter p names)) ≡ cond b (f name) [] ++ flat_map (λ other. cond (p other) (f other) []) names) [
      | true ↦ ap (λ (rest : List ℕ). f name ++ rest) (filtered p f names)
      | false ↦ filtered p f names
    ]

module _ (shape : Shaping) (detail : Detail) (p : Txn → Bool) (each : (t : Txn) → p t ≡ true) (txns : List Txn) where
  name_kept : (name : Name) → cond (is_chosen (map p txns) name) (spaced_text shape detail (slice_get txns name.1)) [] ≡ spaced_text shape detail (slice_get txns name.1)
  name_kept name =
      ap (λ (o : Option Bool). cond (unwrap_or o false) (spaced_text shape detail (slice_get txns name.1)) []) (slice_get-map p txns name.1)
      ∙ one_kept p (spaced_text shape detail) each refl (slice_get txns name.1)

  all_chosen : chosen_text shape detail txns (map p txns) ≡ journal_text shape detail txns
  all_chosen =
      filtered (is_chosen (map p txns)) (λ name. spaced_text shape detail (slice_get txns name.1)) (names_in_order txns)
      ∙ (λ i. flat_map (λ name. name_kept name i) (names_in_order txns))

-- all are printed
pub all_printed : (scope : Scope) (styles : Styles) → AsksNothing scope → print_text (question_of scope) (styled styles) ≡ journal_text (styled styles) (detail_of scope.options.now) scope.book.now.txns
all_printed scope styles asks = all_chosen (styled styles) (detail_of scope.options.now) (is_printed (question_of scope)) (each_printed scope asks) scope.book.now.txns

-- ---- days

abbrev there : List ℕ → List (Option ℕ)
there days = map (λ day. Some day) days

-- the least of a day and some more
record Bottom (day : ℕ) (days : List ℕ) (found : Option ℕ) : Type 0 where
  bottom : ℕ
  is : found ≡ Some bottom
  first : bottom ≤ day
  all : AllByRecursion (λ d. bottom ≤ d) days

bottom_of : (day : ℕ) (days : List ℕ) → Bottom day days (fold least (Some day) (there days))
bottom_of day [] = record { bottom = day; is = refl; first = omega arith; all = tt }
bottom_of day (d ∷ days) =
    let rest = bottom_of (min day d) days in
    record { bottom = rest.bottom; is = rest.is; first = omega (arith, rest.first); all = (omega (arith, rest.first), rest.all) }

-- the greatest of them
record Top (day : ℕ) (days : List ℕ) (found : Option ℕ) : Type 0 where
  top : ℕ
  is : found ≡ Some top
  first : day ≤ top
  last : top ≤ 3652059
  all : AllByRecursion (λ d. d ≤ top) days

top_of : (day : ℕ) (days : List ℕ) → IsDay day → AllByRecursion IsDay days → Top day days (fold later (Some day) (there days))
top_of day [] is each = record { top = day; is = refl; first = omega arith; last = is.1; all = tt }
top_of day (d ∷ days) is each =
    let greater : IsDay (max day d) = (omega (arith, is.0), omega (arith, is.1, each.0.1)) in
    let rest = top_of (max day d) days greater each.1 in
    record { top = rest.top; is = rest.is; first = omega (arith, rest.first); last = rest.last; all = (omega (arith, rest.first), rest.all) }

-- from the least day up to the greatest
abbrev from_to : ℕ → ℕ → Span
from_to bottom top = record { from = bottom; end = day_after top }

one_held : (bottom top d : ℕ) → bottom ≤ d → d ≤ top → top ≤ 3652059 → holds (from_to bottom top) d ≡ true
one_held bottom top d low high last =
    let before : d < day_after top = omega arith in
    and_from (nat_le bottom d) (nat_lt d (day_after top)) (le-leb bottom d low) (lt-ltb d (day_after top) before)

each_held : (bottom top : ℕ) (days : List ℕ) → AllByRecursion (λ d. bottom ≤ d) days → AllByRecursion (λ d. d ≤ top) days → top ≤ 3652059 → AllByRecursion (λ d. holds (from_to bottom top) d ≡ true) days
each_held bottom top [] low high last = tt
each_held bottom top (d ∷ days) low high last = (one_held bottom top d low.0 high.0 last, each_held bottom top days low.1 high.1 last)

-- the span with some bounds given; in place of a missing one the end of some days, and today where there are none
abbrev spanned : Option ℕ → Option ℕ → List ℕ → ℕ → Span
spanned from end days today = record {
  from = unwrap_or (option_or from (least_of days)) today;
  end = unwrap_or (option_or end (option_map day_after (greatest_of days))) today;
}

abbrev span_by : Option ℕ → Option ℕ → ℕ → Span
span_by lowest highest today = record { from = unwrap_or lowest today; end = unwrap_or (option_map day_after highest) today }

all_held : (days : List ℕ) (today : ℕ) → AllByRecursion IsDay days → AllByRecursion (λ d. holds (spanned None None days today) d ≡ true) days
all_held [] today each = tt
all_held (day ∷ days) today each =
    let low = bottom_of day days in
    let high = top_of day days each.0 each.1 in
    let span : from_to low.bottom high.top ≡ spanned None None (day ∷ days) today = λ i. span_by (sym low.is i) (sym high.is i) today in
    subst (λ (s : Span). AllByRecursion (λ d. holds s d ≡ true) (day ∷ days)) span
    (one_held low.bottom high.top day low.first high.first high.last, each_held low.bottom high.top days low.all high.all high.last)

-- ---- accounts

days_of : (es : List Entry) → AllByRecursion (λ e. IsDay (day_in e)) es → AllByRecursion IsDay (map day_in es)
days_of [] each = tt
days_of (e ∷ es) each = (each.0, days_of es each.1)

filter_true : (es : List Entry) → filter (λ (e : Entry). true) es ≡ es
filter_true [] = refl
filter_true (e ∷ es) = ap (λ (rest : List Entry). e ∷ rest) (filter_true es)

-- those whose days are held are all kept
filter_held : (span : Span) (es : List Entry) → AllByRecursion (λ d. holds span d ≡ true) (map day_in es) → filter (λ (e : Entry). holds span (day_in e)) es ≡ es
filter_held span [] each = refl
filter_held span (e ∷ es) each =
    ap (λ b. cond b (e ∷ filter (λ (x : Entry). holds span (day_in x)) es) (filter (λ (x : Entry). holds span (day_in x)) es)) each.0
    ∙ ap (λ (rest : List Entry). e ∷ rest) (filter_held span es each.1)

in_one : (t : Txn) (ps : List Posting) → map (λ (e : Entry). e.0.account) (map {B = Entry} (λ (p : Posting). (p, t)) ps) ≡ map (λ (p : Posting). p.account) ps
in_one t [] = refl
in_one t (p ∷ ps) = ap (λ (rest : List (List ℕ)). p.account ∷ rest) (in_one t ps)

in_all : (ts : List Txn) → map (λ (e : Entry). e.0.account) (entries_of ts) ≡ map (λ (p : Posting). p.account) (postings_of ts)
in_all [] = refl
in_all (t ∷ ts) =
    map-append (λ (e : Entry). e.0.account) (entries_in t) (entries_of ts)
    ∙ ap (λ (front : List (List ℕ)). front ++ map (λ (e : Entry). e.0.account) (entries_of ts)) (in_one t t.postings)
    ∙ ap (λ (rest : List (List ℕ)). map (λ (p : Posting). p.account) t.postings ++ rest) (in_all ts)
    ∙ sym (map-append (λ (p : Posting). p.account) t.postings (postings_of ts))

module _ (scope : Scope) (asks : AsksNothing scope) where
  -- the span is that of all days
  whole_span : span_of (question_of scope) ≡ spanned None None (map day_in (entries (question_of scope))) scope.day.0
  whole_span =
      (λ i. spanned (later (asks.from i) (from_in (asks.terms i))) (least (asks.end i) (end_in (asks.terms i))) (map day_in (filter (λ (e : Entry). means_posting (known_of scope.query.now.regexes.items) (own_in scope.types.now) (dateless (asks.terms i)) e.0 e.1) (entries (question_of scope)))) scope.day.0)
      ∙ ap (λ (es : List Entry). spanned None None (map day_in es) scope.day.0) (filter_true (entries (question_of scope)))

  -- the query means every posting
  each_meant : (span : Span) → filter (λ (e : Entry). holds span (day_in e) && (question_of scope).means e) (entries (question_of scope)) ≡ filter (λ (e : Entry). holds span (day_in e) && true) (entries (question_of scope))
  each_meant span = λ i. filter (λ (e : Entry). holds span (day_in e) && means_posting (known_of scope.query.now.regexes.items) (own_in scope.types.now) (asks.terms i) e.0 e.1) (entries (question_of scope))

  kept_all : AreDays scope → filter (is_listed (question_of scope)) (entries (question_of scope)) ≡ entries (question_of scope)
  kept_all days =
      each_meant (span_of (question_of scope))
      ∙ (λ i. filter (λ (e : Entry). and-true (holds (span_of (question_of scope)) (day_in e)) i) (entries (question_of scope)))
      ∙ filter_held (span_of (question_of scope)) (entries (question_of scope)) (subst (λ (s : Span). AllByRecursion (λ d. holds s d ≡ true) (map day_in (entries (question_of scope)))) (sym whole_span) (all_held (map day_in (entries (question_of scope))) scope.day.0 (days_of (entries (question_of scope)) days)))

  -- all are listed
  pub all_listed : AreDays scope → accounts_text (question_of scope) ≡ account_lines (accounts_of (postings_of scope.book.now.txns))
  all_listed days =
      ap (λ (es : List Entry). account_lines (each_once account_cmp (map (account_shown (question_of scope)) es))) (kept_all days)
      ∙ (λ i. account_lines (each_once account_cmp (map (λ (e : Entry). cut_to (depth_in (asks.terms i)) e.0.account) (entries (question_of scope)))))
      ∙ ap (λ (accounts : List (List ℕ)). account_lines (each_once account_cmp accounts)) (in_all scope.book.now.txns)
