use Rattle.std.proofs.Common.{sym, subst}
use Rattle.command_words.specs.declared.task.Task.{Task}
use Rattle.command_line.specs.Complete.{CompletesTask}
use Rattle.command_line.specs.Scenes.{scene}
use Rattle.command_line.proofs.TalkCompleting.{complete_talk}
use Rattle.command_line.proofs.program.run_any_task.Goals as goal

pub returns-in-Talk-clause-complete : goal.returns-in-Talk-clause-complete
returns-in-Talk-clause-complete g c =
    let old = scene g.J.Source g.O.Sink g.E.Sink g.S.Shelf g.M.Maker c.args.outside.now in
    let new = scene g.J.Source g.O.Sink g.E.Sink g.S.Shelf g.M.Maker c.run_talk.new.outside in
    subst (λ (t : Task). CompletesTask c.args.day.0 c.run_talk.result.0 old new t) (sym c.in-Talk.is)
    (complete_talk g.J.Source g.O.Sink g.E.Sink g.S.Shelf g.S.Disk.Disk g.M.Maker c.in-Talk.what c.args.day c.run_talk.result.0 c.args.outside.now c.run_talk.new.outside
    c.run_talk.ensures.talked)
