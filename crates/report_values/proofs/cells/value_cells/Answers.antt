use Rattle.std.proofs.Common.{◌≡◌, ℕ, ◌<◌, ◌^◌, List, length, map, Option, None, sym, ap, subst, ◌∙◌}
use Rattle.std.specs.List.{AllByRecursion}
use Rattle.std.specs.Option.{option_copied}
use Rattle.hl_time.specs.declared.spans.Span.{Span}
use Rattle.report_cells.specs.Bounds.{first_out}
use Rattle.report_cells.specs.Report.{row_seen, rows_in, totals_in}
use Rattle.report_cells.specs.Taken.{Taken}
use Rattle.report_cells.specs.declared.cells.CellRow.{CellRow}
use Rattle.report_cells.specs.declared.reach.Reach.TheVariants.{Within}
use Rattle.report_values.specs.Cells.{cell_values, first_cell, rows_of}
use Rattle.report_values.specs.Numbers.{numbers}
use Rattle.report_values.specs.Refusals.{lesser, first_lost, values_of, IsRefused}
use Rattle.report_values.specs.Spread.{spread}
use Rattle.report_values.specs.ValueDays.{day_at}
use Rattle.report_values.specs.Worth.{priced_of}
use Rattle.report_values.proofs.cells.value_cells.Goals as goal

pub spread-requires : goal.spread-requires
spread-requires c = subst (AllByRecursion (λ (row : CellRow). length row.cells < 2 ^ 32)) (sym c.as_slice-2.ensures) c.requires.whole

pub returns-in-Ok-clause-rows : goal.returns-in-Ok-clause-rows
returns-in-Ok-clause-rows c =
    let market = (priced_of c.args.market.now) in
    let days = c.args.days.now in
    let sums : c.deref.result.now ≡ spread (rows_of c.args.cells.now) = c.deref.ensures.value ∙ c.in_ok-sums.ensures ∙ ap (λ (rows : List CellRow). spread (map row_seen rows)) c.as_slice-2.ensures in
    let values : c.deref-2.result.now ≡ cell_values (priced_of c.args.market.now) c.args.days.now (rows_of c.args.cells.now) =
    c.deref-2.ensures.value ∙ c.in_ok-values.ensures.values ∙ ap (values_of (priced_of c.args.market.now) (day_at c.args.days.now)) sums in
    let numbered : c.in_ok-numbered.numbered ≡ numbers (length c.args.cells.now.columns) = c.in_ok-numbered.ensures.value ∙ ap numbers c.len.ensures in
    c.in-Ok.ensures.rows
    ∙ ap (λ (cs : List Span). rows_in Within cs c.deref-2.result.now) numbered
    ∙ ap (rows_in Within (numbers (length c.args.cells.now.columns))) values

pub returns-in-Ok-clause-totals : goal.returns-in-Ok-clause-totals
returns-in-Ok-clause-totals c =
    let sums : c.deref.result.now ≡ spread (rows_of c.args.cells.now) = c.deref.ensures.value ∙ c.in_ok-sums.ensures ∙ ap (λ (rows : List CellRow). spread (map row_seen rows)) c.as_slice-2.ensures in
    let values : c.deref-2.result.now ≡ cell_values (priced_of c.args.market.now) c.args.days.now (rows_of c.args.cells.now) =
    c.deref-2.ensures.value ∙ c.in_ok-values.ensures.values ∙ ap (values_of (priced_of c.args.market.now) (day_at c.args.days.now)) sums in
    let numbered : c.in_ok-numbered.numbered ≡ numbers (length c.args.cells.now.columns) = c.in_ok-numbered.ensures.value ∙ ap numbers c.len.ensures in
    c.in-Ok.ensures.totals
    ∙ ap (λ (cs : List Span). totals_in Within cs c.deref-2.result.now) numbered
    ∙ ap (totals_in Within (numbers (length c.args.cells.now.columns))) values

pub returns-in-Ok-clause-within : goal.returns-in-Ok-clause-within
returns-in-Ok-clause-within c =
    let sums : c.deref.result.now ≡ spread (rows_of c.args.cells.now) = c.deref.ensures.value ∙ c.in_ok-sums.ensures ∙ ap (λ (rows : List CellRow). spread (map row_seen rows)) c.as_slice-2.ensures in
    let values : c.deref-2.result.now ≡ cell_values (priced_of c.args.market.now) c.args.days.now (rows_of c.args.cells.now) =
    c.deref-2.ensures.value ∙ c.in_ok-values.ensures.values ∙ ap (values_of (priced_of c.args.market.now) (day_at c.args.days.now)) sums in
    let lost : option_copied c.in_ok-values.values.lost ≡ first_lost (priced_of c.args.market.now) (day_at c.args.days.now) (spread (rows_of c.args.cells.now)) =
    c.in_ok-values.ensures.lost ∙ ap (first_lost (priced_of c.args.market.now) (day_at c.args.days.now)) sums in
    sym (ap (λ (o : Option (List ℕ)). lesser o (first_out c.deref-2.result.now)) lost
    ∙ ap (λ (vs : List Taken). lesser (first_lost (priced_of c.args.market.now) (day_at c.args.days.now) (spread (rows_of c.args.cells.now))) (first_out vs)) values)
    ∙ c.in-Ok.ensures.none

pub returns-in-Err-clause-fault : goal.returns-in-Err-clause-fault
returns-in-Err-clause-fault c =
    let sums : c.deref.result.now ≡ spread (rows_of c.args.cells.now) = c.deref.ensures.value ∙ c.in_ok-sums.ensures ∙ ap (λ (rows : List CellRow). spread (map row_seen rows)) c.as_slice-2.ensures in
    let values : c.deref-2.result.now ≡ cell_values (priced_of c.args.market.now) c.args.days.now (rows_of c.args.cells.now) =
    c.deref-2.ensures.value ∙ c.in_ok-values.ensures.values ∙ ap (values_of (priced_of c.args.market.now) (day_at c.args.days.now)) sums in
    let lost : option_copied c.in_ok-values.values.lost ≡ first_lost (priced_of c.args.market.now) (day_at c.args.days.now) (spread (rows_of c.args.cells.now)) =
    c.in_ok-values.ensures.lost ∙ ap (first_lost (priced_of c.args.market.now) (day_at c.args.days.now)) sums in
    subst (λ (o : Option (List ℕ)). IsRefused o c.in-Err.fault)
    (ap (λ (o : Option (List ℕ)). lesser o (first_out c.deref-2.result.now)) lost
    ∙ ap (λ (vs : List Taken). lesser (first_lost (priced_of c.args.market.now) (day_at c.args.days.now) (spread (rows_of c.args.cells.now))) (first_out vs)) values)
    c.in-Err.ensures.fault
