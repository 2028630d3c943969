use Rattle.std.proofs.Common.{sym, subst}
use Rattle.command_words.specs.declared.task.Task.{Task}
use Rattle.command_line.specs.Complete.{CompletesTask}
use Rattle.command_line.specs.Scenes.{scene}
use Rattle.command_line.proofs.Completing.{complete_sample, complete_text, complete_written}
use Rattle.command_line.proofs.StoredCompleting.{complete_stored}
use Rattle.command_line.proofs.program.run_task.Goals as goal

pub returns-in-Over-clause-complete : goal.returns-in-Over-clause-complete
returns-in-Over-clause-complete g c =
    let old = scene g.J.Source g.O.Sink g.E.Sink g.S.Shelf g.M.Maker c.args.outside.now in
    let new = scene g.J.Source g.O.Sink g.E.Sink g.S.Shelf g.M.Maker c.run_text.new.outside in
    subst (λ (t : Task). CompletesTask c.args.day.0 c.run_text.result.0 old new t) (sym c.in-Over.is)
    (complete_text c.in-Over.given c.args.day.0 c.run_text.result.0 old new c.run_text.ensures.statuses c.run_text.ensures.runs)

pub returns-in-Sample-clause-complete : goal.returns-in-Sample-clause-complete
returns-in-Sample-clause-complete g c =
    let old = scene g.J.Source g.O.Sink g.E.Sink g.S.Shelf g.M.Maker c.args.outside.now in
    let new = scene g.J.Source g.O.Sink g.E.Sink g.S.Shelf g.M.Maker c.run_sample.new.outside in
    let sampled = c.run_sample.ensures.sampled in
    subst (λ (t : Task). CompletesTask c.args.day.0 c.run_sample.result.0 old new t) (sym c.in-Sample.is)
    (complete_sample c.in-Sample.count c.run_sample.result.0 old new sampled.answer sampled.told sampled.ends)

pub returns-in-Help-clause-complete : goal.returns-in-Help-clause-complete
returns-in-Help-clause-complete g c =
    let old = scene g.J.Source g.O.Sink g.E.Sink g.S.Shelf g.M.Maker c.args.outside.now in
    let out = g.O.Sink in
    let outside = c.args.outside.now in
    let new = scene g.J.Source g.O.Sink g.E.Sink g.S.Shelf g.M.Maker
    (record outside { streams = record (outside.streams) { output = c.finish.new.out }; err = c.finish.new.err }) in
    subst (λ (t : Task). CompletesTask c.args.day.0 c.finish.result.0 old new t) (sym c.in-Help.is)
    (λ none. complete_written c.finish.result.0 (out.faults outside.streams.output) (out.faults c.finish.new.out) c.finish.ensures.statuses c.finish.ensures.rose none.output)

pub returns-in-Version-clause-complete : goal.returns-in-Version-clause-complete
returns-in-Version-clause-complete g c =
    let old = scene g.J.Source g.O.Sink g.E.Sink g.S.Shelf g.M.Maker c.args.outside.now in
    let out = g.O.Sink in
    let outside = c.args.outside.now in
    let finish = c.finish-in-Version in
    let new = scene g.J.Source g.O.Sink g.E.Sink g.S.Shelf g.M.Maker
    (record outside { streams = record (outside.streams) { output = finish.new.out }; err = finish.new.err }) in
    subst (λ (t : Task). CompletesTask c.args.day.0 finish.result.0 old new t) (sym c.in-Version.is)
    (λ none. complete_written finish.result.0 (out.faults outside.streams.output) (out.faults finish.new.out) finish.ensures.statuses finish.ensures.rose none.output)

pub returns-in-Stored-clause-complete : goal.returns-in-Stored-clause-complete
returns-in-Stored-clause-complete g c =
    let old = scene g.J.Source g.O.Sink g.E.Sink g.S.Shelf g.M.Maker c.args.outside.now in
    let new = scene g.J.Source g.O.Sink g.E.Sink g.S.Shelf g.M.Maker c.run_stored.new.outside in
    subst (λ (t : Task). CompletesTask c.args.day.0 c.run_stored.result.0 old new t) (sym c.in-Stored.is)
    (complete_stored g.J.Source g.O.Sink g.E.Sink g.S.Shelf g.S.Disk.Disk g.M.Maker c.args.day c.run_stored.result.0 c.args.outside.now c.run_stored.new.outside
    c.in-Stored.what c.run_stored.ensures.stored)
