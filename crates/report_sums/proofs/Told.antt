-- What calls promise of their answers, told by the definitions.
use Rattle.std.proofs.Common.{◌≡◌, ℕ, Bool, true, false, not, cond, List, map, Option, None, Result, Ok, Err, IfOk, refl, sym, ap, subst, ◌∙◌}
use Rattle.std.specs.Prelude.{OnOk, IfErr}
use Rattle.std.proofs.lemmas.Bool.{false≢true}
use Rattle.hl_base.specs.Gives.{Gives}
use Rattle.hl_time.specs.declared.day.Day.{Day}
use Rattle.hl_time.specs.declared.spans.Span.{Span}
use Rattle.report_cells.specs.Bounds.{first_out}
use Rattle.report_cells.specs.Faults.{IsFault}
use Rattle.report_cells.specs.Report.{row_seen, seen}
use Rattle.report_cells.specs.Taken.{Taken}
use Rattle.report_cells.specs.declared.cells.Cells.{Cells}
use Rattle.report_cells.specs.declared.fault.ReportFault.{ReportFault}
use Rattle.report_cells.specs.declared.fault.ReportFault.TheVariants.{Range, TooWide, Memory}
use Rattle.report_options.specs.declared.options.Options.{Options}
use Rattle.report_options.specs.declared.options.When.{When}
use Rattle.report_takings.specs.Costs.{is_at_cost, first_out as first_cost}
use Rattle.report_takings.specs.Takings.{IsOut, kept_entries, out_of, takings_of}
use Rattle.report_takings.specs.declared.entries.Part.TheVariants.{Counted}
use Rattle.report_values.specs.Days.{day_of}
use Rattle.report_values.specs.Refusals.{IsRefused}
use Rattle.report_values.specs.declared.dates.Dates.TheVariants as dates
use Rattle.report_sums.specs.Celled.{Celled, cause, celled_of, cells_by, cells_of, is_written, plain_cells, reach_of, taken_cells, unless}
use Rattle.report_sums.specs.Matters.{Matter, dated_in, market_in}
use Rattle.report_sums.specs.Ways.{way_of}
use Rattle.report_sums.specs.Worths.{worth_by, worth_on, worths_of}
use Rattle.report_sums.specs.declared.way.Way.{Way}
use Rattle.report_sums.specs.declared.way.Way.TheVariants as ways

-- an answer that is what is made where no symbol is out of range, and tells the least one else
pub told_unless : {X Y : Type 0} (view : X → Y) (first : Option (List ℕ)) (made : Y) (r : Result X ReportFault)
    → IfOk r (λ x. view x ≡ made) → OnOk r (first ≡ None) → IfErr r (IsRefused first) → Gives view cause r (unless first made)
told_unless view first made (Ok x) is none fault =
    ap (λ (o : Option (List ℕ)). unless o made) none ∙ ap (λ y. unless None y) (sym is)
told_unless view first made (Err (Range symbol)) is none fault = ap (λ (o : Option (List ℕ)). unless o made) fault
told_unless view first made (Err (TooWide columns limit)) is none fault = absurd fault
told_unless view first made (Err Memory) is none fault = tt

-- the same of cells, whose rows and totals are told apart
pub told_celled : (first : Option (List ℕ)) (made : Celled) (r : Result Cells ReportFault)
    → IfOk r (λ c. map row_seen c.rows ≡ made.rows) → IfOk r (λ c. map seen c.totals ≡ made.totals)
    → OnOk r (first ≡ None) → IfErr r (IsRefused first) → Gives celled_of cause r (unless first made)
told_celled first made (Ok c) rows totals none fault =
    told_unless celled_of first made (Ok c) (λ i. record { rows = rows i; totals = totals i }) none fault
told_celled first made (Err e) rows totals none fault = told_unless celled_of first made (Err e) tt none fault

refused : (ts : List Taken) (fault : ReportFault) → IsFault ts fault → IsRefused (first_out ts) fault
refused ts (Range symbol) h = h
refused ts (TooWide columns limit) h = h
refused ts Memory h = h

pub refused_plain : {X : Type 0} (ts : List Taken) (r : Result X ReportFault) → IfErr r (IsFault ts) → IfErr r (IsRefused (first_out ts))
refused_plain ts (Ok x) h = h
refused_plain ts (Err fault) h = refused ts fault h

-- the sums of what is taken are those of the report
pub told_taken : (m : Matter) (columns : List Span) (ts : List Taken) (way : Way) (r : Result Cells ReportFault)
    → out_of m.asked columns ≡ None → ts ≡ takings_of m.asked columns → way ≡ way_of m.asked.options.value
    → Gives celled_of cause r (cells_by way m columns ts) → Gives celled_of cause r (cells_of m columns)
told_taken m columns ts way r none is same told =
    subst (λ (t : Result Celled ReportFault). Gives celled_of cause r t)
    (ap (λ (w : Way). cells_by w m columns ts) same
    ∙ ap (cells_by (way_of m.asked.options.value) m columns) is
    ∙ ap (λ (o : Option (List ℕ)). taken_cells o m columns) (sym none))
    told

-- a cost that is out of range is told
pub told_out : (m : Matter) (columns : List Span) (fault : ReportFault) → IsOut m.asked columns fault
    → Gives celled_of cause (Err fault) (cells_of m columns)
told_out m columns (Range symbol) out = ap (λ (o : Option (List ℕ)). taken_cells o m columns) out
told_out m columns (TooWide count limit) out = absurd out
told_out m columns Memory out = tt

-- values on the one day of a report are what its takings are worth
pub told_worth : {X : Type 0} (view : X → List Taken) (m : Matter) (span : Span) (ts : List Taken) (read : List Taken) (when : When) (day : Day) (r : Result X ReportFault)
    → ways.Columns when ≡ way_of m.asked.options.value → day ≡ day_of (dated_in m) when span → read ≡ ts
    → Gives view cause r (worth_on (market_in m) (dates.On day) read) → Gives view cause r (worths_of m span ts)
told_worth view m span ts read when day r same is whole told =
    subst (λ (t : Result (List Taken) ReportFault). Gives view cause r t)
    (ap (λ (d : Day). worth_on (market_in m) (dates.On d) read) is
    ∙ ap (worth_on (market_in m) (dates.On (day_of (dated_in m) when span))) whole
    ∙ ap (λ (w : Way). worth_by w m span ts) same)
    told

-- ---- amounts as they are written

not_so : (b : Bool) → not b ≡ true → b ≡ false
not_so true h = absurd (false≢true h)
not_so false h = refl

written_plain : (way : Way) (options : Options) → is_written way options ≡ true → (way ≡ ways.Plain) × (is_at_cost options ≡ false)
written_plain ways.Plain options h = (refl, not_so (is_at_cost options) h)
written_plain ways.Each options h = absurd (false≢true h)
written_plain (ways.Columns _) options h = absurd (false≢true h)

-- such amounts have no cost that is out of range
pub written_costs : (way : Way) (options : Options) → is_written way options ≡ true → is_at_cost options ≡ false
written_costs way options h = (written_plain way options h).1

-- the sums of what is taken as it is written are those of the report
pub told_written : (m : Matter) (columns : List Span) (way : Way) (r : Result Cells ReportFault) → way ≡ way_of m.asked.options.value → is_written way m.asked.options ≡ true
    → Gives celled_of cause r (plain_cells (reach_of m.asked.options.start) columns (takings_of m.asked columns)) → Gives celled_of cause r (cells_of m columns)
told_written m columns way r is written told =
    let both = written_plain way m.asked.options written in
    told_taken m columns (takings_of m.asked columns) ways.Plain r
    (ap (λ (b : Bool). cond b (first_cost (kept_entries Counted m.asked columns)) None) both.1) refl (sym both.0 ∙ is) told
