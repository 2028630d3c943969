use Rattle.std.proofs.Common.{List, sym, ap, subst, ◌∙◌}
use Rattle.std.proofs.lemmas.Result.{err_from_is_err_and}
use Rattle.hl_time.specs.declared.spans.Span.{Span}
use Rattle.report_takings.specs.Takings.{IsOut, out_of, takings_of}
use Rattle.report_sums.specs.Matters.{matter_of}
use Rattle.report_sums.proofs.Told.{told_out, told_taken}
use Rattle.report_sums.proofs.summing.taken_cells.Goals as goal

pub returns-clause-told : goal.returns-clause-told
returns-clause-told c =
    let m = matter_of c.args.job.now in
    told_taken m c.args.columns c.deref.result.now c.args.way c.cells_by.result
    (ap (out_of m.asked) (sym c.as_slice.ensures) ∙ c.in_ok-takings.ensures.within)
    (c.deref.ensures.value ∙ c.in_ok-takings.ensures.taken ∙ ap (takings_of m.asked) c.as_slice.ensures)
    c.requires.way
    c.cells_by.ensures.told

pub returns-in_err-takings-clause-told : goal.returns-in_err-takings-clause-told
returns-in_err-takings-clause-told c =
    let m = matter_of c.args.job.now in
    let p = err_from_is_err_and c.from_residual.result c.from_residual.ensures.1 in
    rw (p.1, p.2) (told_out m c.args.columns c.in_err-takings.field-0.0
    (subst (λ (cs : List Span). IsOut m.asked cs c.in_err-takings.field-0.0) c.as_slice.ensures c.in_err-takings.ensures.fault))
