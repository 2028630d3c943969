use Rattle.std.proofs.Common.{◌≡◌, ℕ, List, map, Option, None, IfOk, sym, ap, subst, ◌∙◌}
use Rattle.std.specs.Prelude.{OnOk, IfErr}
use Rattle.std.specs.Option.{option_copied}
use Rattle.report_cells.specs.Bounds.{first_out}
use Rattle.report_cells.specs.Report.{row_seen, rows_in, seen, totals_in}
use Rattle.report_cells.specs.Taken.{Taken}
use Rattle.report_values.specs.Refusals.{lesser, first_lost, first_refused, values_of, IsRefused}
use Rattle.report_values.specs.ValueDays.{day_by}
use Rattle.report_values.specs.declared.dates.Dates.TheVariants as dates
use Rattle.report_values.specs.Worth.{priced_of}
use Rattle.report_values.proofs.cells.cells_then.Goals as goal

pub returns-clause-rows : goal.returns-clause-rows
returns-clause-rows c =
    let values : c.deref.result.now ≡ values_of (priced_of c.args.market.now) (day_by dates.Own) c.args.takings.now = c.deref.ensures.value ∙ c.in_ok-values.ensures.values in
    subst (λ (vs : List Taken). IfOk c.cells_of.result (λ cells. map row_seen cells.rows ≡ rows_in c.args.reach c.args.columns vs)) values c.cells_of.ensures.rows

pub returns-clause-totals : goal.returns-clause-totals
returns-clause-totals c =
    let values : c.deref.result.now ≡ values_of (priced_of c.args.market.now) (day_by dates.Own) c.args.takings.now = c.deref.ensures.value ∙ c.in_ok-values.ensures.values in
    subst (λ (vs : List Taken). IfOk c.cells_of.result (λ cells. map seen cells.totals ≡ totals_in c.args.reach c.args.columns vs)) values c.cells_of.ensures.totals

pub returns-clause-within : goal.returns-clause-within
returns-clause-within c =
    let values : c.deref.result.now ≡ values_of (priced_of c.args.market.now) (day_by dates.Own) c.args.takings.now = c.deref.ensures.value ∙ c.in_ok-values.ensures.values in
    let least : option_copied c.lesser-least.result ≡ lesser (first_out c.args.takings.now) (first_lost (priced_of c.args.market.now) (day_by dates.Own) c.args.takings.now) =
    c.lesser-least.ensures
    ∙ ap (λ (o : Option (List ℕ)). lesser o (option_copied c.in_ok-values.values.lost)) (c.as_ref.ensures.value ∙ c.in_ok-plain.ensures)
    ∙ ap (lesser (first_out c.args.takings.now)) c.in_ok-values.ensures.lost in
    subst (λ (o : Option (List ℕ)). OnOk c.cells_of.result (o ≡ None))
    (ap (λ (o : Option (List ℕ)). lesser o (first_out c.deref.result.now)) least
    ∙ ap (λ (vs : List Taken). lesser (lesser (first_out c.args.takings.now) (first_lost (priced_of c.args.market.now) (day_by dates.Own) c.args.takings.now)) (first_out vs)) values)
    c.cells_of.ensures.none

pub returns-clause-fault : goal.returns-clause-fault
returns-clause-fault c =
    let values : c.deref.result.now ≡ values_of (priced_of c.args.market.now) (day_by dates.Own) c.args.takings.now = c.deref.ensures.value ∙ c.in_ok-values.ensures.values in
    let least : option_copied c.lesser-least.result ≡ lesser (first_out c.args.takings.now) (first_lost (priced_of c.args.market.now) (day_by dates.Own) c.args.takings.now) =
    c.lesser-least.ensures
    ∙ ap (λ (o : Option (List ℕ)). lesser o (option_copied c.in_ok-values.values.lost)) (c.as_ref.ensures.value ∙ c.in_ok-plain.ensures)
    ∙ ap (lesser (first_out c.args.takings.now)) c.in_ok-values.ensures.lost in
    subst (λ (o : Option (List ℕ)). IfErr c.cells_of.result (IsRefused o))
    (ap (λ (o : Option (List ℕ)). lesser o (first_out c.deref.result.now)) least
    ∙ ap (λ (vs : List Taken). lesser (lesser (first_out c.args.takings.now) (first_lost (priced_of c.args.market.now) (day_by dates.Own) c.args.takings.now)) (first_out vs)) values)
    c.cells_of.ensures.fault
