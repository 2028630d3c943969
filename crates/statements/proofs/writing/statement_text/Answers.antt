use Rattle.std.proofs.Common.{◌≡◌, ℕ, List, length, Option, map, refl, sym, ap, subst, ◌∙◌}
use Rattle.std.proofs.lemmas.Result.{err_from_is_err_and}
use Rattle.book.specs.Styles.{style_in}
use Rattle.query.specs.OwnLetters.{own_in}
use Rattle.report_cells.specs.Report.{row_seen}
use Rattle.balance_layouts.specs.Balance.{IsFault}
use Rattle.statements.proofs.Whole.{made_fit, made_out, made_text}
use Rattle.statements.proofs.writing.statement_text.Goals as goal

pub body_of-requires-clause-fits : goal.body_of-requires-clause-fits
body_of-requires-clause-fits c =
    made_fit (own_in c.args.types.now) c.args.statement c.args.layout.now (style_in c.args.styles.now)
    c.args.cells.columns c.as_slice-columns.result.now (map row_seen c.args.cells.rows) (map row_seen c.as_slice-rows.result.now)
    c.first.result c.second.result (map row_seen c.in_ok-upper.upper) (map row_seen c.in_ok-lower.lower) (length c.as_slice-columns.result.now)
    c.as_slice-columns.ensures (ap (map row_seen) c.as_slice-rows.ensures) c.first.ensures c.second.ensures
    c.in_ok-upper.ensures c.in_ok-lower.ensures refl c.requires.fits

pub returns-clause-text : goal.returns-clause-text
returns-clause-text c =
    c.in_ok-table_text.ensures
    ∙ made_text (own_in c.args.types.now) c.args.statement c.args.layout.now (style_in c.args.styles.now)
    c.args.cells.columns c.as_slice-columns.result.now (map row_seen c.args.cells.rows) (map row_seen c.as_slice-rows.result.now)
    c.first.result c.second.result (map row_seen c.in_ok-upper.upper) (map row_seen c.in_ok-lower.lower) (length c.as_slice-columns.result.now)
    c.as_slice-columns.ensures (ap (map row_seen) c.as_slice-rows.ensures) c.first.ensures c.second.ensures
    c.in_ok-upper.ensures c.in_ok-lower.ensures refl
    c.in_ok-title.title c.in_ok-heads.heads c.in_ok-body.body c.in_ok-title.ensures c.in_ok-heads.ensures c.in_ok-body.ensures.body

pub returns-clause-told : goal.returns-clause-told
returns-clause-told c =
    sym (made_out (own_in c.args.types.now) c.args.statement c.args.layout.now (style_in c.args.styles.now)
    c.args.cells.columns c.as_slice-columns.result.now (map row_seen c.args.cells.rows) (map row_seen c.as_slice-rows.result.now)
    c.first.result c.second.result (map row_seen c.in_ok-upper.upper) (map row_seen c.in_ok-lower.lower) (length c.as_slice-columns.result.now)
    c.as_slice-columns.ensures (ap (map row_seen) c.as_slice-rows.ensures) c.first.ensures c.second.ensures
    c.in_ok-upper.ensures c.in_ok-lower.ensures refl)
    ∙ c.in_ok-body.ensures.told

pub returns-in_err-body-clause-fault : goal.returns-in_err-body-clause-fault
returns-in_err-body-clause-fault c =
    let same = made_out (own_in c.args.types.now) c.args.statement c.args.layout.now (style_in c.args.styles.now)
    c.args.cells.columns c.as_slice-columns.result.now (map row_seen c.args.cells.rows) (map row_seen c.as_slice-rows.result.now)
    c.first.result c.second.result (map row_seen c.in_ok-upper.upper) (map row_seen c.in_ok-lower.lower) (length c.as_slice-columns.result.now)
    c.as_slice-columns.ensures (ap (map row_seen) c.as_slice-rows.ensures) c.first.ensures c.second.ensures
    c.in_ok-upper.ensures c.in_ok-lower.ensures refl in
    let p = err_from_is_err_and c.from_residual-in_err-body.result c.from_residual-in_err-body.ensures.1 in
    rw (p.1, p.2) (subst (λ (out : Option (List ℕ)). IsFault out c.in_err-body.field-0.0) same c.in_err-body.ensures.fault)
