use Rattle.std.proofs.Common.{◌≡◌, List, filter, ap, subst}
use Rattle.std.proofs.lemmas.Result.{err_from_is_err_and}
use Rattle.hl_time.specs.declared.spans.Span.{Span}
use Rattle.report_takings.specs.Asking.{entries, question_of}
use Rattle.report_takings.specs.Entries.{Entry}
use Rattle.report_takings.specs.Takings.{IsOutAmong, is_kept, kept_entries}
use Rattle.report_takings.specs.declared.entries.Part.TheVariants.{Counted}
use Rattle.report_takings.proofs.takings.take.Goals as goal

pub returns-in_err-takings-clause-fault : goal.returns-in_err-takings-clause-fault
returns-in_err-takings-clause-fault c =
    let asked = question_of c.args.scope.now in
    let same : filter (is_kept Counted asked c.shown_in-shown.result) (entries asked) ≡ kept_entries Counted asked c.args.columns.now =
    ap (λ (shown : Span). filter (is_kept Counted asked shown) (entries asked)) c.shown_in-shown.ensures in
    let p = err_from_is_err_and c.from_residual.result c.from_residual.ensures.1 in
    rw (p.1, p.2) (subst (λ (es : List Entry). IsOutAmong c.args.scope.now.options.now es c.in_err-takings.field-0.0) same c.in_err-takings.ensures.fault)
