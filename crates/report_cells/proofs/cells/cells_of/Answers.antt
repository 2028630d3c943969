use Rattle.std.proofs.Common.{◌≡◌, ℕ, ◌<◌, List, [], length, sym, ap, subst, ◌∙◌}
use Rattle.report_cells.specs.Kept.{column_of, column_totals, EachFits}
use Rattle.report_cells.specs.declared.cells.CellRow.{CellRow}
use Rattle.report_cells.proofs.cells.cells_of.Goals as goal

pub totals_of-requires : goal.totals_of-requires
totals_of-requires c = λ at lt.
    subst (λ (rs : List CellRow). EachFits [] (column_of at rs)) (sym (c.as_slice-shown.ensures ∙ c.in_ok-rows.ensures))
    (c.requires.totals at (subst (λ (n : ℕ). at < n) c.len-width.ensures lt))

pub returns-clause-totals : goal.returns-clause-totals
returns-clause-totals c =
    c.in_ok-totals.ensures
    ∙ ap (λ (n : ℕ). column_totals n c.as_slice-shown.result.now) c.len-width.ensures
    ∙ ap (column_totals (length c.args.columns)) (c.as_slice-shown.ensures ∙ c.in_ok-rows.ensures)
