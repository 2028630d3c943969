use Rattle.std.proofs.Common.{◌≡◌, ℕ, ℤ, List, length, map, Option, None, IfOk, sym, ap, subst, ◌∙◌}
use Rattle.std.specs.Prelude.{OnOk, IfErr}
use Rattle.hl_time.specs.declared.spans.Span.{Span}
use Rattle.report_cells.specs.Report.{rows_in, seen}
use Rattle.report_values.specs.Cells.{plain_rows, planned_of, rows_of, valued_rows, valued_totals}
use Rattle.report_values.specs.Refusals.{IsRefused}
use Rattle.report_values.specs.Worth.{priced_of}
use Rattle.report_values.proofs.Composing.{some_columns, few_columns, few_cells, refused_alone}
use Rattle.report_values.proofs.cells.cells_on.Goals as goal

pub value_cells-requires-clause-some : goal.value_cells-requires-clause-some
value_cells-requires-clause-some c =
    let columns : c.in-Ok.cells.columns ≡ c.args.plan.now.columns.now = c.in-Ok.ensures.columns ∙ c.in_ok-columns.ensures in
    let rows : rows_of c.in-Ok.cells ≡ plain_rows (planned_of c.args.plan.now) c.args.takings.now = c.in-Ok.ensures.rows ∙ ap (λ (cs : List Span). rows_in c.args.plan.now.reach cs c.args.takings.now) c.in_ok-columns.ensures in
    some_columns (planned_of c.args.plan.now) c.args.takings.now c.in-Ok.cells columns rows c.requires.follow

pub value_cells-requires-clause-few : goal.value_cells-requires-clause-few
value_cells-requires-clause-few c =
    let columns : c.in-Ok.cells.columns ≡ c.args.plan.now.columns.now = c.in-Ok.ensures.columns ∙ c.in_ok-columns.ensures in
    let rows : rows_of c.in-Ok.cells ≡ plain_rows (planned_of c.args.plan.now) c.args.takings.now = c.in-Ok.ensures.rows ∙ ap (λ (cs : List Span). rows_in c.args.plan.now.reach cs c.args.takings.now) c.in_ok-columns.ensures in
    few_columns (planned_of c.args.plan.now) c.args.takings.now c.in-Ok.cells columns rows c.requires.few

pub value_cells-requires-clause-whole : goal.value_cells-requires-clause-whole
value_cells-requires-clause-whole c =
    let columns : c.in-Ok.cells.columns ≡ c.args.plan.now.columns.now = c.in-Ok.ensures.columns ∙ c.in_ok-columns.ensures in
    let rows : rows_of c.in-Ok.cells ≡ plain_rows (planned_of c.args.plan.now) c.args.takings.now = c.in-Ok.ensures.rows ∙ ap (λ (cs : List Span). rows_in c.args.plan.now.reach cs c.args.takings.now) c.in_ok-columns.ensures in
    few_cells (planned_of c.args.plan.now) c.args.takings.now c.in-Ok.cells columns rows c.requires.few

pub returns-in-Ok-clause-columns : goal.returns-in-Ok-clause-columns
returns-in-Ok-clause-columns c =
    let columns : c.in-Ok.cells.columns ≡ c.args.plan.now.columns.now = c.in-Ok.ensures.columns ∙ c.in_ok-columns.ensures in
    subst (λ (cs : List Span). IfOk c.value_cells.result (λ r. r.columns ≡ cs)) columns c.value_cells.ensures.columns

pub returns-in-Ok-clause-rows : goal.returns-in-Ok-clause-rows
returns-in-Ok-clause-rows c =
    let columns : c.in-Ok.cells.columns ≡ c.args.plan.now.columns.now = c.in-Ok.ensures.columns ∙ c.in_ok-columns.ensures in
    let rows : rows_of c.in-Ok.cells ≡ plain_rows (planned_of c.args.plan.now) c.args.takings.now = c.in-Ok.ensures.rows ∙ ap (λ (cs : List Span). rows_in c.args.plan.now.reach cs c.args.takings.now) c.in_ok-columns.ensures in
    subst (λ (rs : List (List ℕ × List (List (List ℕ × ℤ)))). IfOk c.value_cells.result (λ r. rows_of r ≡ valued_rows (priced_of c.args.plan.now.market.now) c.args.plan.now.days.now (length c.args.plan.now.columns.now) rs)) rows
    (subst (λ (cs : List Span). IfOk c.value_cells.result (λ r. rows_of r ≡ valued_rows (priced_of c.args.plan.now.market.now) c.args.plan.now.days.now (length cs) (rows_of c.in-Ok.cells))) columns c.value_cells.ensures.rows)

pub returns-in-Ok-clause-totals : goal.returns-in-Ok-clause-totals
returns-in-Ok-clause-totals c =
    let columns : c.in-Ok.cells.columns ≡ c.args.plan.now.columns.now = c.in-Ok.ensures.columns ∙ c.in_ok-columns.ensures in
    let rows : rows_of c.in-Ok.cells ≡ plain_rows (planned_of c.args.plan.now) c.args.takings.now = c.in-Ok.ensures.rows ∙ ap (λ (cs : List Span). rows_in c.args.plan.now.reach cs c.args.takings.now) c.in_ok-columns.ensures in
    subst (λ (rs : List (List ℕ × List (List (List ℕ × ℤ)))). IfOk c.value_cells.result (λ r. map seen r.totals ≡ valued_totals (priced_of c.args.plan.now.market.now) c.args.plan.now.days.now (length c.args.plan.now.columns.now) rs)) rows
    (subst (λ (cs : List Span). IfOk c.value_cells.result (λ r. map seen r.totals ≡ valued_totals (priced_of c.args.plan.now.market.now) c.args.plan.now.days.now (length cs) (rows_of c.in-Ok.cells))) columns c.value_cells.ensures.totals)

pub returns-in-Ok-clause-within : goal.returns-in-Ok-clause-within
returns-in-Ok-clause-within c =
    let rows : rows_of c.in-Ok.cells ≡ plain_rows (planned_of c.args.plan.now) c.args.takings.now = c.in-Ok.ensures.rows ∙ ap (λ (cs : List Span). rows_in c.args.plan.now.reach cs c.args.takings.now) c.in_ok-columns.ensures in
    subst (λ (o : Option (List ℕ)). OnOk c.value_cells.result (o ≡ None)) (refused_alone (planned_of c.args.plan.now) c.args.takings.now (rows_of c.in-Ok.cells) c.in-Ok.ensures.within rows) c.value_cells.ensures.within

pub returns-in-Ok-clause-fault : goal.returns-in-Ok-clause-fault
returns-in-Ok-clause-fault c =
    let rows : rows_of c.in-Ok.cells ≡ plain_rows (planned_of c.args.plan.now) c.args.takings.now = c.in-Ok.ensures.rows ∙ ap (λ (cs : List Span). rows_in c.args.plan.now.reach cs c.args.takings.now) c.in_ok-columns.ensures in
    subst (λ (o : Option (List ℕ)). IfErr c.value_cells.result (IsRefused o)) (refused_alone (planned_of c.args.plan.now) c.args.takings.now (rows_of c.in-Ok.cells) c.in-Ok.ensures.within rows) c.value_cells.ensures.fault
