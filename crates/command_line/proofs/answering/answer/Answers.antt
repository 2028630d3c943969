use Rattle.std.proofs.Common.{ℕ, List, Ok, sym, subst}
use Rattle.std.proofs.lemmas.Result.{err_from_is_err_and}
use Rattle.command_line.specs.Runs.{ReadsText}
use Rattle.command_line.specs.Scenes.{scene}
use Rattle.command_line.proofs.Reporting.{never_read, read_report, unread_report}
use Rattle.command_line.proofs.answering.answer.Goals as goal

pub returns-in_err-text-clause-answers : goal.returns-in_err-text-clause-answers
returns-in_err-text-clause-answers g c =
    let p = err_from_is_err_and c.from_residual.result c.from_residual.ensures.1 in
    let old = scene g.J.Source g.O.Sink g.E.Sink g.S.Shelf g.M.Maker c.args.outside.now in
    let new = scene g.J.Source g.O.Sink g.E.Sink g.S.Shelf g.M.Maker c.read_text.new.outside in
    rw (p.1, p.2) (unread_report c.args.task.now c.args.day.0 c.in_err-text.field-0.0 old new c.in_err-text.ensures.reads)

pub returns-clause-answers : goal.returns-clause-answers
returns-clause-answers g c =
    let old = scene g.J.Source g.O.Sink g.E.Sink g.S.Shelf g.M.Maker c.args.outside.now in
    let mid = scene g.J.Source g.O.Sink g.E.Sink g.S.Shelf g.M.Maker c.read_text.new.outside in
    let F : List ℕ → Type 0 = λ x. ReadsText c.args.task.now.origin (Ok x) old mid in
    let told = c.answer_read.ensures in
    read_report c.args.task.now c.args.day.0 c.as_slice.result.now c.answer_read.result old mid
    (g.M.Maker.refusals c.answer_read.new.maker) (g.M.Maker.last_refused c.answer_read.new.maker)
    (subst F (sym c.as_slice.ensures) c.in_ok-text.ensures.reads) told.found told.kind told.maker

pub returns-clause-sound : goal.returns-clause-sound
returns-clause-sound g c = λ sound e. never_read c.answer_read.result c.answer_read.ensures.kind e
