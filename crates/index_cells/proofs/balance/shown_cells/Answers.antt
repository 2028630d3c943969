use Rattle.std.proofs.Common.{ℕ, ◌<◌, List, [], length, refl, ap, sym, subst, ◌∙◌}
use Rattle.hl_time.specs.declared.spans.Span.{Span}
use Rattle.report_cells.specs.Kept.{EachFits, column_of, column_totals}
use Rattle.report_cells.specs.declared.cells.CellRow.{CellRow}
use Rattle.index_cells.specs.Held.{HoldsRows, most_of, summed_in}
use Rattle.index_cells.proofs.Showing.{named_fit, shown_are}
use Rattle.index_cells.proofs.balance.shown_cells.Goals as goal

pub totals_of-requires : goal.totals_of-requires
totals_of-requires g c = λ at lt.
    let kept = c.args.kept.now in
    let rows = c.in_ok-rows.rows in
    let held = subst (λ (columns : List Span). HoldsRows (summed_in kept c.args.reach c.args.days) (most_of kept) columns rows kept.accounts) c.as_slice.ensures c.in_ok-rows.ensures.rows in
    subst (λ (rs : List CellRow). EachFits [] (column_of at rs)) (sym c.as_slice-2.ensures)
    (named_fit kept c.requires.told.0 c.requires.told.1 c.args.columns c.args.reach c.args.days rows held at (subst (λ (n : ℕ). at < n) c.len.ensures lt))

pub returns-clause-made : goal.returns-clause-made
returns-clause-made g c = λ ts told.
    let kept = c.args.kept.now in
    let rows = c.in_ok-rows.rows in
    let held = subst (λ (columns : List Span). HoldsRows (summed_in kept c.args.reach c.args.days) (most_of kept) columns rows kept.accounts) c.as_slice.ensures c.in_ok-rows.ensures.rows in
    let totals = c.in_ok-totals.ensures ∙ ap (λ (n : ℕ). column_totals n c.as_slice-2.result.now) c.len.ensures ∙ ap (column_totals (length c.args.columns)) c.as_slice-2.ensures in
    shown_are kept ts told c.args.columns c.args.reach c.args.days rows (record { columns = c.args.columns; rows = rows; totals = c.in_ok-totals.totals }) held refl refl totals
