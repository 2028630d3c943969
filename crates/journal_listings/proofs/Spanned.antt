-- A report over its span as one column.
use Rattle.std.proofs.Common.{◌≡◌, ℕ, ◌≤◌, List, [], ◌∷◌, map, filter, length, Option, None, refl, sym, ap, subst, ◌∙◌, arith}
use Rattle.std.specs.Prelude.{IfSome, unwrap_or, ◌&&◌}
use Rattle.std.specs.Option.{option_map, option_or}
use Rattle.hl_time.specs.declared.spans.Interval.{Interval}
use Rattle.hl_time.specs.declared.spans.Span.{Span}
use Rattle.book.specs.Accounts.{account_cmp}
use Rattle.book.specs.Order.{each_once}
use Rattle.query.specs.Matching.{least, later}
use Rattle.report_cells.specs.declared.fault.ReportFault.{ReportFault}
use Rattle.report_cells.specs.declared.fault.ReportFault.TheVariants.{Range, TooWide, Memory}
use Rattle.report_takings.specs.Asking.{Question, entries}
use Rattle.report_takings.specs.Columns.{columns_of, cut_into, IsTooWide}
use Rattle.report_takings.specs.Days.{least_of, greatest_of, day_after}
use Rattle.report_takings.specs.Entries.{Entry, day_in}
use Rattle.report_takings.specs.Spans.{days_meant, span_of}
use Rattle.report_takings.specs.Takings.{holds}
use Rattle.journal_listings.specs.Listed.{account_lines, account_shown, accounts_text}

pub no_interval : (interval : Option Interval) → interval ≡ None → IfSome interval (λ some. 1 ≤ some.n)
no_interval interval is = subst (λ (some : Option Interval). IfSome some (λ one. 1 ≤ one.n)) (sym is) tt

module _ (asked : Question) (whole : asked.options.bounds.interval ≡ None) where
  -- without an interval the span is the one column
  pub one_span : (columns : List Span) → columns ≡ columns_of asked → columns ≡ span_of asked ∷ []
  one_span columns are = are ∙ ap (λ (interval : Option Interval). cut_into interval (span_of asked)) whole

  -- and one isn't too many
  pub never_wide : (fault : ReportFault) → IsTooWide (columns_of asked) fault → fault ≡ Memory
  never_wide (Range symbol) h = absurd h
  never_wide Memory h = refl
  never_wide (TooWide count limit) h =
      let one : count ≡ 1 = h.counted ∙ ap (λ (interval : Option Interval). length (cut_into interval (span_of asked))) whole in
      absurd (omega (arith, one, h.many, h.most))

-- the span and what is listed, with other bounds
abbrev span_by : Question → Option ℕ → Option ℕ → Span
span_by asked from end = record {
  from = unwrap_or (option_or (later from asked.dates.from) (least_of (days_meant asked))) asked.day;
  end = unwrap_or (option_or (least end asked.dates.end) (option_map day_after (greatest_of (days_meant asked)))) asked.day;
}

abbrev text_by : Question → Option ℕ → Option ℕ → List ℕ
text_by asked from end =
    account_lines (each_once account_cmp (map (account_shown asked) (filter (λ (e : Entry). holds (span_by asked from end) (day_in e) && asked.means e) (entries asked))))

-- of the options it is the bounds alone
pub same_text : (asked : Question) (from end : Option ℕ) → from ≡ asked.options.bounds.from → end ≡ asked.options.bounds.end → text_by asked from end ≡ accounts_text asked
same_text asked from end first last = λ i. text_by asked (first i) (last i)
