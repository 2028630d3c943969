use Rattle.std.proofs.Common.{◌++◌, ◌∷◌, [], List, map, ap, ◌∙◌}
use Rattle.report_cells.specs.declared.cells.CellRow.{CellRow}
use Rattle.report_cells.specs.Report.{seen}
use Rattle.statements.proofs.Signs.{rows_are}
use Rattle.statements.proofs.sections.net_rows.Goals as goal

pub returns : goal.returns
returns c =
    let one : CellRow = c.in_ok-unnamed.field-0 in
    let two : CellRow = c.in_ok-unnamed-2.field-0 in
    rows_are c.push-2.new.self.items one two (map seen c.args.first.now) (map seen c.args.second.now)
    (c.in_ok-push-2.ensures.items ∙ ap (λ (rows : List CellRow). rows ++ two ∷ [])
    (c.in_ok-push.ensures.items ∙ ap (λ (rows : List CellRow). rows ++ one ∷ []) c.new-rows.ensures.items))
    c.in_ok-unnamed.ensures c.in_ok-unnamed-2.ensures
