use Rattle.std.proofs.Common.{◌≡◌, List, [], ap, subst, ◌∙◌}
use Rattle.std.proofs.lemmas.Result.{err_from_is_err_and}
use Rattle.hl_time.specs.declared.spans.Span.{Span}
use Rattle.report_cells.specs.Made.{Makes}
use Rattle.report_cells.proofs.Adds.{begun_of}
use Rattle.report_takings.specs.Asking.{question_of}
use Rattle.report_takings.specs.Takings.{shown_in}
use Rattle.report_takings.specs.Walked.{taken_by}
use Rattle.report_takings.proofs.gathering.gather.Goals as goal

pub gather_kept-requires-clause-begun : goal.gather_kept-requires-clause-begun
gather_kept-requires-clause-begun c = begun_of c.args.columns c.args.reach [] c.new-gatherer.result c.new-gatherer.ensures

pub finish-requires : goal.finish-requires
finish-requires c =
    begun_of c.args.columns c.args.reach (taken_by (question_of c.args.scope.now) c.shown_in-shown.result) c.gather_kept.new.gatherer
    (c.in_ok-gather_kept.ensures c.args.columns c.args.reach [] c.new-gatherer.ensures)

pub returns-in_err-gather_kept : goal.returns-in_err-gather_kept
returns-in_err-gather_kept c =
    let p = err_from_is_err_and c.from_residual.result c.from_residual.ensures.1 in
    rw (p.1, p.2) tt

pub returns : goal.returns
returns c =
    let asked = question_of c.args.scope.now in
    subst (λ (shown : Span). Makes c.args.columns c.args.reach (taken_by asked shown) c.finish.result) (c.shown_in-shown.ensures ∙ ap shown_in c.as_slice.ensures)
    (c.finish.ensures c.args.columns c.args.reach (taken_by asked c.shown_in-shown.result)
    (c.in_ok-gather_kept.ensures c.args.columns c.args.reach [] c.new-gatherer.ensures))
