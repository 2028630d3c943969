-- The span of a report without terms of a query.
use Rattle.std.proofs.Common.{◌≡◌, ℕ, true, List, [], ◌∷◌, map, filter, Option, Some, None, unwrap_or, cond, Bool, refl, ap, ◌∙◌}
use Rattle.std.specs.Option.{option_map, option_or}
use Rattle.hl_time.specs.declared.spans.Span.{Span}
use Rattle.query.specs.Matching.{dates_in, later, least, means_undated}
use Rattle.query.specs.OwnLetters.{own_in}
use Rattle.query_terms.specs.Sought.{known_of}
use Rattle.query_terms.specs.declared.kinds.Term.{Term}
use Rattle.report_cells.specs.Taken.{Taken}
use Rattle.report_takings.specs.Asking.{entries, question_of}
use Rattle.report_takings.specs.Days.{day_after, greatest_of, least_of}
use Rattle.report_takings.specs.Entries.{Entry, day_in, entries_of}
use Rattle.report_takings.specs.Spans.{days_meant, given_end, given_from, span_of}
use Rattle.report_takings.specs.declared.scope.Scope.{Scope}
use Rattle.index_cells.specs.Posted.{posted, posted_in}

-- the first and the last of some days, where there are some
pub record Ends : Type 0 where
  pub first : Option ℕ
  pub last : Option ℕ

-- those of takings
abbrev pub ends_in : List Taken → Ends
ends_in ts = record { first = least_of (map (λ t. t.day) ts); last = greatest_of (map (λ t. t.day) ts) }

all_pass : (p : Entry → Bool) → ((e : Entry) → p e ≡ true) → (es : List Entry) → filter p es ≡ es
all_pass p all [] = refl
all_pass p all (e ∷ es) = ap (λ (b : Bool). cond b (e ∷ filter p es) (filter p es)) (all e) ∙ ap (λ (rest : List Entry). e ∷ rest) (all_pass p all es)

days_posted : (es : List Entry) → map day_in es ≡ map (λ (t : Taken). t.day) (map posted es)
days_posted [] = refl
days_posted (e ∷ es) = ap (λ (days : List ℕ). day_in e ∷ days) (days_posted es)

later_none : (o : Option ℕ) → later o None ≡ o
later_none None = refl
later_none (Some day) = refl

least_none : (o : Option ℕ) → least o None ≡ o
least_none None = refl
least_none (Some day) = refl

-- bounds, in place of missing ones the ends of some days, and with none of these a day
abbrev pub with_ends : Option ℕ → Option ℕ → Ends → ℕ → Span
with_ends from end ends day = record {
  from = unwrap_or (option_or from ends.first) day;
  end = unwrap_or (option_or end (option_map day_after ends.last)) day;
}

module _ (scope : Scope) (plain : scope.query.now.terms.items ≡ []) where
  means_all : (e : Entry) → (question_of scope).means_undated e ≡ true
  means_all e = ap (λ (terms : List Term). means_undated (known_of scope.query.now.regexes.items) (own_in scope.types.now) terms e.0 e.1) plain

  all_days : days_meant (question_of scope) ≡ map (λ (t : Taken). t.day) (posted_in scope.book.now.txns)
  all_days =
      ap (map day_in) (all_pass (question_of scope).means_undated means_all (entries (question_of scope)))
      ∙ days_posted (entries_of scope.book.now.txns)

  from_given : given_from (question_of scope) ≡ scope.options.now.bounds.from
  from_given =
      ap (λ (terms : List Term). later scope.options.now.bounds.from (dates_in terms).from) plain
      ∙ later_none scope.options.now.bounds.from

  end_given : given_end (question_of scope) ≡ scope.options.now.bounds.end
  end_given =
      ap (λ (terms : List Term). least scope.options.now.bounds.end (dates_in terms).end) plain
      ∙ least_none scope.options.now.bounds.end

  pub span_is : span_of (question_of scope) ≡ with_ends scope.options.now.bounds.from scope.options.now.bounds.end (ends_in (posted_in scope.book.now.txns)) scope.day.0
  span_is = λ i. record {
    from = unwrap_or (option_or (from_given i) (least_of (all_days i))) scope.day.0;
    end = unwrap_or (option_or (end_given i) (option_map day_after (greatest_of (all_days i)))) scope.day.0;
  }
