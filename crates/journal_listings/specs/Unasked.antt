-- Reports of which nothing is asked.
use Rattle.std.specs.Prelude.{◌≡◌, [], None}
use Rattle.std.specs.List.{AllByRecursion}
use Rattle.hl_time.specs.Calendar.{IsDay}
use Rattle.report_takings.specs.Asking.{entries, question_of}
use Rattle.report_takings.specs.Entries.{day_in}
use Rattle.report_takings.specs.declared.scope.Scope.{Scope}

-- the query has no term, and no bound is given
pub record AsksNothing (scope : Scope) : Type 0 where
  pub terms : scope.query.now.terms.items ≡ []
  pub from : scope.options.now.bounds.from ≡ None
  pub end : scope.options.now.bounds.end ≡ None

-- the days of the book's postings are days of the calendar
abbrev pub AreDays : Scope → Type 0
AreDays scope = AllByRecursion (λ entry. IsDay (day_in entry)) (entries (question_of scope))
