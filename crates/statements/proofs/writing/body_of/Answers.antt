use Rattle.std.proofs.Common.{◌≡◌, ℕ, List, Option, map, sym, ap, subst, ◌∙◌}
use Rattle.std.proofs.lemmas.Result.{err_from_is_err_and}
use Rattle.report_cells.specs.declared.cells.CellRow.{CellRow}
use Rattle.report_cells.specs.Report.{Sums, row_seen, seen}
use Rattle.balance_rows.specs.Fitting.{ColumnsFit}
use Rattle.balance_rows.specs.Trees.{column_sums, roots, tree}
use Rattle.balance_layouts.specs.Balance.{IsFault}
use Rattle.statements.specs.declared.statement.Part.{Part}
use Rattle.statements.specs.Chosen.{net, part_totals}
use Rattle.statements.specs.OnPage.{layout_on, style_on}
use Rattle.statements.specs.Written.{net_line, part_section}
use Rattle.statements.proofs.Alike.{body_is, least_is}
use Rattle.statements.proofs.Fitted.{first_columns, first_fits, net_fits, second_columns, second_fits, totals_are}
use Rattle.statements.proofs.writing.body_of.Goals as goal

pub totals_of-requires : goal.totals_of-requires
totals_of-requires c =
    subst (λ (rows : List CellRow). ColumnsFit (map row_seen rows)) (sym c.as_slice.ensures)
    (first_columns (layout_on c.args.page.now) (map row_seen c.args.upper) (map row_seen c.args.lower) c.requires.fits)

pub totals_of-requires-2 : goal.totals_of-requires-2
totals_of-requires-2 c =
    subst (λ (rows : List CellRow). ColumnsFit (map row_seen rows)) (sym c.as_slice-2.ensures)
    (second_columns (layout_on c.args.page.now) (map row_seen c.args.upper) (map row_seen c.args.lower) c.requires.fits)

pub net_line-requires-clause-fits : goal.net_line-requires-clause-fits
net_line-requires-clause-fits c =
    let columns = c.args.page.now.columns in
    net_fits (layout_on c.args.page.now) (map row_seen c.args.upper) (map row_seen c.args.lower) c.requires.fits columns
    (map seen c.as_slice-3.result.now) (map seen c.as_slice-4.result.now)
    (ap (map seen) c.as_slice-3.ensures ∙ c.in_ok-firsts.ensures.flat ∙ ap (λ (rows : List CellRow). column_sums columns (map row_seen rows)) c.as_slice.ensures)
    (ap (map seen) c.as_slice-4.ensures ∙ c.in_ok-seconds.ensures.flat ∙ ap (λ (rows : List CellRow). column_sums columns (map row_seen rows)) c.as_slice-2.ensures)

pub section-requires-clause-fits : goal.section-requires-clause-fits
section-requires-clause-fits c =
    let columns = c.args.page.now.columns in
    first_fits (layout_on c.args.page.now) (map row_seen c.args.upper) (map row_seen c.args.lower) c.requires.fits columns (map seen c.in_ok-firsts.firsts)
    (c.in_ok-firsts.ensures.flat ∙ ap (λ (rows : List CellRow). column_sums columns (map row_seen rows)) c.as_slice.ensures)

pub section-requires-2-clause-fits : goal.section-requires-2-clause-fits
section-requires-2-clause-fits c =
    let columns = c.args.page.now.columns in
    second_fits (layout_on c.args.page.now) (map row_seen c.args.upper) (map row_seen c.args.lower) c.requires.fits columns (map seen c.in_ok-seconds.seconds)
    (c.in_ok-seconds.ensures.flat ∙ ap (λ (rows : List CellRow). column_sums columns (map row_seen rows)) c.as_slice-2.ensures)

pub returns-clause-body : goal.returns-clause-body
returns-clause-body c =
    let page = c.args.page.now in
    let layout = layout_on page in
    let columns = page.columns in
    let style = style_on page in
    let upper = map row_seen c.args.upper in
    let lower = map row_seen c.args.lower in
    let firsts = map seen c.in_ok-firsts.firsts in
    let seconds = map seen c.in_ok-seconds.seconds in
    let one_is : firsts ≡ part_totals layout.order columns upper =
    totals_are layout.order columns upper firsts
    (c.in_ok-firsts.ensures.flat ∙ ap (λ (rows : List CellRow). column_sums columns (map row_seen rows)) c.as_slice.ensures)
    (c.in_ok-firsts.ensures.tree ∙ ap (λ (rows : List CellRow). column_sums columns (roots (tree columns (map row_seen rows)))) c.as_slice.ensures) in
    let two_is : seconds ≡ part_totals layout.order columns lower =
    totals_are layout.order columns lower seconds
    (c.in_ok-seconds.ensures.flat ∙ ap (λ (rows : List CellRow). column_sums columns (map row_seen rows)) c.as_slice-2.ensures)
    (c.in_ok-seconds.ensures.tree ∙ ap (λ (rows : List CellRow). column_sums columns (roots (tree columns (map row_seen rows)))) c.as_slice-2.ensures) in
    body_is c.args.statement layout columns style upper lower firsts seconds one_is two_is
    c.in_ok-one.one c.in_ok-two.two c.in_ok-sections.sections c.in_ok-last.last
    (c.in_ok-one.ensures.section ∙ ap (λ (part : Part). part_section layout columns style part upper firsts) c.first.ensures)
    (c.in_ok-two.ensures.section ∙ ap (λ (part : Part). part_section layout columns style part lower seconds) c.second.ensures)
    c.in_ok-sections.ensures
    (c.in_ok-last.ensures.line ∙ (λ i. net_line layout columns style (net columns (map seen (c.as_slice-3.ensures i)) (map seen (c.as_slice-4.ensures i)))))

pub returns-clause-told : goal.returns-clause-told
returns-clause-told c =
    let page = c.args.page.now in
    let layout = layout_on page in
    let columns = page.columns in
    let upper = map row_seen c.args.upper in
    let lower = map row_seen c.args.lower in
    let firsts = map seen c.in_ok-firsts.firsts in
    let seconds = map seen c.in_ok-seconds.seconds in
    let one_is : firsts ≡ part_totals layout.order columns upper =
    totals_are layout.order columns upper firsts
    (c.in_ok-firsts.ensures.flat ∙ ap (λ (rows : List CellRow). column_sums columns (map row_seen rows)) c.as_slice.ensures)
    (c.in_ok-firsts.ensures.tree ∙ ap (λ (rows : List CellRow). column_sums columns (roots (tree columns (map row_seen rows)))) c.as_slice.ensures) in
    let two_is : seconds ≡ part_totals layout.order columns lower =
    totals_are layout.order columns lower seconds
    (c.in_ok-seconds.ensures.flat ∙ ap (λ (rows : List CellRow). column_sums columns (map row_seen rows)) c.as_slice-2.ensures)
    (c.in_ok-seconds.ensures.tree ∙ ap (λ (rows : List CellRow). column_sums columns (roots (tree columns (map row_seen rows)))) c.as_slice-2.ensures) in
    sym (least_is c.args.statement layout columns (style_on page) upper lower firsts seconds one_is two_is
    c.net_line.new.least c.section.new.least c.section-2.new.least (map seen c.as_slice-3.result.now) (map seen c.as_slice-4.result.now)
    (ap (map seen) c.as_slice-3.ensures) (ap (map seen) c.as_slice-4.ensures)
    c.in_ok-last.ensures.least c.in_ok-one.ensures.least c.in_ok-two.ensures.least)
    ∙ c.in_ok-check_averages.ensures.told

pub returns-in_err-check_averages-clause-fault : goal.returns-in_err-check_averages-clause-fault
returns-in_err-check_averages-clause-fault c =
    let page = c.args.page.now in
    let layout = layout_on page in
    let columns = page.columns in
    let upper = map row_seen c.args.upper in
    let lower = map row_seen c.args.lower in
    let firsts = map seen c.in_ok-firsts.firsts in
    let seconds = map seen c.in_ok-seconds.seconds in
    let one_is : firsts ≡ part_totals layout.order columns upper =
    totals_are layout.order columns upper firsts
    (c.in_ok-firsts.ensures.flat ∙ ap (λ (rows : List CellRow). column_sums columns (map row_seen rows)) c.as_slice.ensures)
    (c.in_ok-firsts.ensures.tree ∙ ap (λ (rows : List CellRow). column_sums columns (roots (tree columns (map row_seen rows)))) c.as_slice.ensures) in
    let two_is : seconds ≡ part_totals layout.order columns lower =
    totals_are layout.order columns lower seconds
    (c.in_ok-seconds.ensures.flat ∙ ap (λ (rows : List CellRow). column_sums columns (map row_seen rows)) c.as_slice-2.ensures)
    (c.in_ok-seconds.ensures.tree ∙ ap (λ (rows : List CellRow). column_sums columns (roots (tree columns (map row_seen rows)))) c.as_slice-2.ensures) in
    let chain = least_is c.args.statement layout columns (style_on page) upper lower firsts seconds one_is two_is
    c.net_line.new.least c.section.new.least c.section-2.new.least (map seen c.as_slice-3.result.now) (map seen c.as_slice-4.result.now)
    (ap (map seen) c.as_slice-3.ensures) (ap (map seen) c.as_slice-4.ensures)
    c.in_ok-last.ensures.least c.in_ok-one.ensures.least c.in_ok-two.ensures.least in
    let p = err_from_is_err_and c.from_residual-in_err-check_averages.result c.from_residual-in_err-check_averages.ensures.1 in
    rw (p.1, p.2) (subst (λ (out : Option (List ℕ)). IsFault out c.in_err-check_averages.field-0.0) chain c.in_err-check_averages.ensures.fault)
