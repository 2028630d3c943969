use Rattle.std.proofs.Common.{◌++◌, ◌∷◌, [], List, ap, ◌∙◌}
use Rattle.std.specs.List.{flat_map}
use Rattle.std.proofs.lemmas.Result.{IfOk-weaker}
use Rattle.report_cells.specs.declared.cells.CellRow.{CellRow}
use Rattle.report_cells.specs.declared.reach.Reach.TheVariants.{Within}
use Rattle.journal_listings.proofs.Shown.{lines_are}
use Rattle.journal_listings.proofs.accounts.account_list.Goals as goal

pub returns-in-Ok : goal.returns-in-Ok
returns-in-Ok c =
    IfOk-weaker c.row_accounts.result _ _ (λ text is.
    is
    ∙ ap (λ (rows : List CellRow). flat_map (λ row. row.account ++ 10 ∷ []) rows) c.as_slice.ensures
    ∙ lines_are Within c.args.columns c.args.takings.now c.in-Ok.cells.rows c.in-Ok.ensures.rows) c.row_accounts.ensures
