-- Sums from what is kept are shown as those of the report.
use Rattle.std.proofs.Common.{◌≡◌, ℕ, ◌+◌, ◌<◌, Bool, true, false, cond, not, ◌&&◌, ◌||◌, List, [], ◌∷◌, map, length, Option, None, Result, Ok, Err, sym, ap, subst, ◌∙◌, arith}
use Rattle.std.specs.Prelude.{IfSome, is_some}
use Rattle.std.proofs.lemmas.Bool.{false≢true, or_parts}
use Rattle.hl_time.specs.declared.spans.Interval.{Interval}
use Rattle.hl_time.specs.declared.spans.Span.{Span}
use Rattle.balance_rows.specs.Rows.{shown_rows}
use Rattle.index_cells.specs.Posted.{AreDated, IsPlain}
use Rattle.index_cells.specs.Shown.{Shows}
use Rattle.report_cells.specs.Bounds.{first_out}
use Rattle.report_cells.specs.Faults.{IsFault}
use Rattle.report_cells.specs.Follows.{Follow}
use Rattle.report_cells.specs.Report.{row_seen, rows_in, seen, totals_in}
use Rattle.report_cells.specs.Taken.{Taken}
use Rattle.report_cells.specs.declared.cells.Cells.{Cells}
use Rattle.report_cells.specs.declared.fault.ReportFault.{ReportFault}
use Rattle.report_cells.specs.declared.fault.ReportFault.TheVariants.{Range, TooWide, Memory}
use Rattle.report_cells.specs.declared.reach.Reach.{Reach}
use Rattle.report_commands.specs.Answered.{◌>>=◌, columns_in, few, sums_in}
use Rattle.report_commands.specs.Layouts.{is_table}
use Rattle.report_options.specs.declared.options.Options.{Options}
use Rattle.report_options.specs.declared.options.Valuation.{Valuation}
use Rattle.report_sums.specs.Celled.{Celled, cause, cells_by, cells_of, plain_cells, reach_of, taken_cells, unless}
use Rattle.report_sums.specs.Matters.{Matter}
use Rattle.report_sums.specs.Ways.{way_of}
use Rattle.report_sums.proofs.Again.{summed}
use Rattle.report_takings.specs.Asking.{Question, question_of}
use Rattle.report_takings.specs.Columns.{columns_of, cut_into}
use Rattle.report_takings.specs.Costs.{first_out as first_cost, is_at_cost, values_at_cost}
use Rattle.report_takings.specs.Spans.{span_of}
use Rattle.report_takings.specs.Takings.{is_historical, kept_entries, takings_of}
use Rattle.report_takings.specs.declared.entries.Part.TheVariants.{Counted}
use Rattle.report_takings.specs.declared.scope.Scope.{Scope}
use Rattle.kept_reports.specs.Alike.{AreShownAs, Shown, wide_column}
use Rattle.kept_reports.specs.Served.{IsServed}
use Rattle.kept_reports.proofs.Spanning.{span_is}
use Rattle.kept_reports.proofs.Widening.{span, takings_same, wide_rows, wide_totals}

-- ---- amounts as they are written

pub not_at_cost : (options : Options) → IsServed options → is_at_cost options ≡ false
not_at_cost options served = λ i. served.written i || values_at_cost (served.unvalued i)

pub plain_so : (scope : Scope) → scope.query.now.terms.items ≡ [] → IsServed scope.options.now → IsPlain scope (question_of scope)
plain_so scope bare served = record {
  terms = bare;
  written = not_at_cost scope.options.now served;
  later = ap (λ (empty : Bool). empty && not (is_historical scope.options.now.start)) served.shown;
}

module _ (m : Matter) (served : IsServed m.asked.options) (columns : List Span) where
  abbrev taken : List Taken
  taken = takings_of m.asked columns

  abbrev reach : Reach
  reach = reach_of m.asked.options.start

  abbrev whole : Celled
  whole = record { rows = rows_in reach columns taken; totals = totals_in reach columns taken }

  cells_plain : cells_of m columns ≡ plain_cells reach columns taken
  cells_plain =
      ap (λ (costs : Bool). taken_cells (cond costs (first_cost (kept_entries Counted m.asked columns)) None) m columns) (not_at_cost m.asked.options served)
      ∙ ap (λ (value : Option Valuation). cells_by (way_of value) m columns taken) served.unvalued

  sums_by : (made : Result Celled ReportFault) → columns_in m.asked ≡ Ok columns → cells_of m columns ≡ made → sums_in m ≡ (made >>= λ cells. Ok (columns, cells))
  sums_by made told is =
      ap (λ (q : Result (List Span) ReportFault). q >>= λ (columns : List Span). (cells_of m columns >>= λ (cells : Celled). Ok (columns, cells))) told
      ∙ ap (λ (q : Result Celled ReportFault). q >>= λ (cells : Celled). Ok (columns, cells)) is

  pub shown_by : (cells : Cells) → columns_in m.asked ≡ Ok columns → Follow columns → first_out taken ≡ None
      → length cells.columns ≡ length columns → (is_table m.asked.options ≡ true → cells.columns ≡ columns)
      → shown_rows false (map row_seen cells.rows) ≡ shown_rows false (rows_in reach columns taken)
      → map seen cells.totals ≡ totals_in reach columns taken → AreShownAs m cells
  shown_by cells told follow within count same rows totals =
      let made : cells_of m columns ≡ Ok whole = cells_plain ∙ ap (λ (o : Option (List ℕ)). unless o whole) within in
      record {
        columns = columns;
        whole = whole;
        made = sums_by (Ok whole) told made;
        fits = summed m columns whole follow made;
        some = follow.some;
        count = count;
        same = same;
        rows = rows;
        totals = totals;
      }

  pub fault_by : (fault : ReportFault) → columns_in m.asked ≡ Ok columns → IsFault taken fault → IfSome (cause fault) (λ f. sums_in m ≡ Err f)
  fault_by (Range symbol) told h = sums_by (Err (Range symbol)) told (cells_plain ∙ ap (λ (o : Option (List ℕ)). unless o whole) h)
  fault_by (TooWide count limit) told h = absurd h
  fault_by Memory told h = tt

-- ---- by the columns of a table

table_at : (m : Matter) (columns : List Span) (r : Result Cells ReportFault) → IsServed m.asked.options → columns_in m.asked ≡ Ok columns → Follow columns
    → Shows columns (reach_of m.asked.options.start) (takings_of m.asked columns) r → Shown m r
table_at m columns (Ok cells) served told follow s =
    shown_by m served columns cells told follow s.within (ap length s.by_columns) (λ table. s.by_columns) s.rows s.totals
table_at m columns (Err fault) served told follow h = fault_by m served columns fault told h

pub table_shown : (m : Matter) (q : Question) (columns : List Span) (r : Result Cells ReportFault) → m.asked ≡ q → IsServed q.options → columns_in q ≡ Ok columns → Follow columns
    → Shows columns (reach_of q.options.start) (takings_of q columns) r → Shown m r
table_shown m q columns r is served told follow s =
    table_at m columns r (subst (λ (x : Question). IsServed x.options) (sym is) served) (subst (λ (x : Question). columns_in x ≡ Ok columns) (sym is) told) follow
    (subst (λ (x : Question). Shows columns (reach_of x.options.start) (takings_of x columns) r) (sym is) s)

-- where there are no columns there are no sums
pub no_columns : (m : Matter) (q : Question) (fault : ReportFault) → m.asked ≡ q → IfSome (cause fault) (λ f. columns_in q ≡ Err f) → Shown m (Err fault)
no_columns m q (Range symbol) is h =
    ap (λ (r : Result (List Span) ReportFault). r >>= λ (columns : List Span). (cells_of m columns >>= λ (cells : Celled). Ok (columns, cells))) (ap columns_in is ∙ h)
no_columns m q (TooWide count limit) is h =
    ap (λ (r : Result (List Span) ReportFault). r >>= λ (columns : List Span). (cells_of m columns >>= λ (cells : Celled). Ok (columns, cells))) (ap columns_in is ∙ h)
no_columns m q Memory is h = tt

-- ---- as a list

alone_follows : (column : Span) → Follow (column ∷ [])
alone_follows column = record {
  some = omega arith;
  joined = λ at lt. absurd (never at lt);
  rising = λ at lt. absurd (never at lt);
}
  where
    never : (at : ℕ) → at + 1 < length (column ∷ []) → ⊥
    never at lt = omega (arith, lt)

-- without an interval there is no table
no_table : (options : Options) → IsServed options → options.bounds.interval ≡ None → is_table options ≡ false
no_table options served none =
    let budget : options.budget ≡ false = (or_parts _ options.budget served.alone).1 in
    λ i. is_some (none i) || budget i

pub alone_in : (scope : Scope) → (plain : IsPlain scope (question_of scope)) → (dated : AreDated scope.book.now.txns) → scope.options.now.bounds.interval ≡ None
    → columns_of (question_of scope) ≡ span scope plain dated ∷ []
alone_in scope plain dated none =
    ap (λ (interval : Option Interval). cut_into interval (span_of (question_of scope))) none ∙ ap (λ (s : Span). s ∷ []) (span_is scope plain.terms)

module _ (scope : Scope) (plain : IsPlain scope (question_of scope)) (dated : AreDated scope.book.now.txns) (none : scope.options.now.bounds.interval ≡ None) (served : IsServed scope.options.now) (m : Matter) (is : m.asked ≡ question_of scope) where
  abbrev own : Span
  own = span scope plain dated

  abbrev back : (P : Question → Type 0) → P (question_of scope) → P m.asked
  back P h = subst P (sym is) h

  told : columns_in m.asked ≡ Ok (own ∷ [])
  told = back (λ x. columns_in x ≡ Ok (own ∷ [])) (ap few (alone_in scope plain dated none))

  pub list_shown : (r : Result Cells ReportFault)
      → Shows (wide_column scope.options.now.bounds ∷ []) (reach_of scope.options.now.start) (takings_of (question_of scope) (wide_column scope.options.now.bounds ∷ [])) r → Shown m r
  list_shown (Ok cells) s =
      shown_by m (back (λ x. IsServed x.options) served) (own ∷ []) cells told (alone_follows own)
      (back (λ x. first_out (takings_of x (own ∷ [])) ≡ None) (ap first_out (sym (takings_same scope plain dated)) ∙ s.within))
      (ap length s.by_columns)
      (λ table. absurd (false≢true (sym (back (λ x. is_table x.options ≡ false) (no_table scope.options.now served none)) ∙ table)))
      (back (λ x. shown_rows false (map row_seen cells.rows) ≡ shown_rows false (rows_in (reach_of x.options.start) (own ∷ []) (takings_of x (own ∷ []))))
      (s.rows ∙ ap (shown_rows false) (wide_rows scope plain dated (reach_of scope.options.now.start))))
      (back (λ x. map seen cells.totals ≡ totals_in (reach_of x.options.start) (own ∷ []) (takings_of x (own ∷ [])))
      (s.totals ∙ wide_totals scope plain dated (reach_of scope.options.now.start)))
  list_shown (Err fault) h =
      fault_by m (back (λ x. IsServed x.options) served) (own ∷ []) fault told
      (back (λ x. IsFault (takings_of x (own ∷ [])) fault) (subst (λ (ts : List Taken). IsFault ts fault) (takings_same scope plain dated) h))
