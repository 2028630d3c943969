use Rattle.std.proofs.Common.{ℕ, List, Ok, length, sym, subst}
use Rattle.command_line.specs.Answers.{line_of}
use Rattle.command_line.specs.Runs.{AnswersText}
use Rattle.command_line.specs.Scenes.{scene, soundness}
use Rattle.command_line.proofs.Endings.{refused_report, refused_soundly, refused_status}
use Rattle.command_line.proofs.Finishing.{finished_report, finished_soundly}
use Rattle.command_line.proofs.program.run_text.Goals as goal

pub returns-in-Err-clause-statuses : goal.returns-in-Err-clause-statuses
returns-in-Err-clause-statuses g c =
    let err = g.E.Sink in
    let old = scene g.J.Source g.O.Sink err g.S.Shelf g.M.Maker c.args.outside.now in
    let mid = scene g.J.Source g.O.Sink err g.S.Shelf g.M.Maker c.answer.new.outside in
    refused_status c.args.task.now c.args.day.0 c.refuse.result.0 old mid (err.written c.refuse.new.err) (err.faults c.refuse.new.err)
    c.in-Err.refusal c.in-Err.ensures.answers c.refuse.ensures.told

pub returns-in-Err-clause-runs : goal.returns-in-Err-clause-runs
returns-in-Err-clause-runs g c =
    let err = g.E.Sink in
    let old = scene g.J.Source g.O.Sink err g.S.Shelf g.M.Maker c.args.outside.now in
    let mid = scene g.J.Source g.O.Sink err g.S.Shelf g.M.Maker c.answer.new.outside in
    refused_report c.args.task.now c.args.day.0 c.refuse.result.0 old mid (err.written c.refuse.new.err) (err.faults c.refuse.new.err)
    c.in-Err.refusal c.in-Err.ensures.answers c.refuse.ensures.told

pub returns-in-Err-clause-sound : goal.returns-in-Err-clause-sound
returns-in-Err-clause-sound g c =
    let err = g.E.Sink in
    let old = scene g.J.Source g.O.Sink err g.S.Shelf g.M.Maker c.args.outside.now in
    let mid = scene g.J.Source g.O.Sink err g.S.Shelf g.M.Maker c.answer.new.outside in
    refused_soundly c.args.task.now c.args.day.0 c.refuse.result.0 old mid (err.written c.refuse.new.err) (err.faults c.refuse.new.err)
    c.in-Err.refusal (soundness g.J.Source g.O.Sink err g.S.Shelf c.args.outside.now) c.in-Err.ensures.answers c.refuse.ensures.told
    c.in-Err.ensures.sound
    (λ room. c.refuse.ensures.sound (subst (λ e. err.HasRoom e (length (line_of c.in-Err.refusal))) (sym c.in-Err.ensures.err) room))

pub returns-in-Ok-clause-runs : goal.returns-in-Ok-clause-runs
returns-in-Ok-clause-runs g c =
    let err = g.E.Sink in
    let old = scene g.J.Source g.O.Sink err g.S.Shelf g.M.Maker c.args.outside.now in
    let mid = scene g.J.Source g.O.Sink err g.S.Shelf g.M.Maker c.answer.new.outside in
    let F : List ℕ → Type 0 = λ o. AnswersText c.args.task.now c.args.day.0 (Ok o) old mid in
    finished_report c.args.task.now c.args.day.0 c.finish.result.0 c.as_slice.result.now old mid
    (g.O.Sink.written c.finish.new.out) (g.O.Sink.faults c.finish.new.out) (err.written c.finish.new.err) (err.faults c.finish.new.err)
    (subst F (sym c.as_slice.ensures) c.in-Ok.ensures.answers)
    c.finish.ensures.statuses c.finish.ensures.written c.finish.ensures.quiet c.finish.ensures.prefix c.finish.ensures.rose c.finish.ensures.said

pub returns-in-Ok-clause-sound : goal.returns-in-Ok-clause-sound
returns-in-Ok-clause-sound g c =
    let err = g.E.Sink in
    let old = scene g.J.Source g.O.Sink err g.S.Shelf g.M.Maker c.args.outside.now in
    let mid = scene g.J.Source g.O.Sink err g.S.Shelf g.M.Maker c.answer.new.outside in
    let F : List ℕ → Type 0 = λ o. AnswersText c.args.task.now c.args.day.0 (Ok o) old mid in
    finished_soundly c.args.task.now c.args.day.0 c.finish.result.0 c.as_slice.result.now old mid
    (soundness g.J.Source g.O.Sink err g.S.Shelf c.args.outside.now)
    (subst F (sym c.as_slice.ensures) c.in-Ok.ensures.answers)
    c.finish.ensures.statuses
    (λ room. c.finish.ensures.sound (subst (λ o. g.O.Sink.HasRoom o (length c.as_slice.result.now)) (sym c.in-Ok.ensures.output) room))
