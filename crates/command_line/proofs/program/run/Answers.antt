use Rattle.std.proofs.Common.{subst}
use Rattle.command_words.specs.Commands.{task_of}
use Rattle.command_line.specs.Scenes.{scene, soundness}
use Rattle.command_line.proofs.Completing.{words_complete}
use Rattle.command_words.proofs.Plain.{plain_read}
use Rattle.command_words.specs.Connections.{IsPlainRead}
use Rattle.command_line.proofs.Running.{words_run, words_sound}
use Rattle.command_line.proofs.StoreEnds.{words_store}
use Rattle.command_line.proofs.program.run.Goals as goal

pub returns-in-Err-clause-runs : goal.returns-in-Err-clause-runs
returns-in-Err-clause-runs g c =
    let err = g.E.Sink in
    let outside = c.args.outside.now in
    words_run c.args.words.now c.args.day.0 c.refuse.result.0 (scene g.J.Source g.O.Sink err g.S.Shelf g.M.Maker outside)
    (err.written c.refuse.new.err) (err.faults c.refuse.new.err) c.refuse_words.result (task_of c.args.day.0 c.args.words.now)
    c.in-Err.fault c.in-Err.ensures.answer c.refuse_words.ensures.line c.refuse_words.ensures.memory c.refuse.ensures.told

pub returns-in-Err-clause-sound : goal.returns-in-Err-clause-sound
returns-in-Err-clause-sound g c =
    let err = g.E.Sink in
    let outside = c.args.outside.now in
    words_sound c.args.words.now c.args.day.0 c.refuse.result.0 (scene g.J.Source g.O.Sink err g.S.Shelf g.M.Maker outside)
    (err.written c.refuse.new.err) (err.faults c.refuse.new.err) c.refuse_words.result (task_of c.args.day.0 c.args.words.now)
    c.in-Err.fault (soundness g.J.Source g.O.Sink err g.S.Shelf outside)
    c.in-Err.ensures.answer c.refuse_words.ensures.line c.refuse_words.ensures.memory c.refuse.ensures.told c.refuse.ensures.sound

pub returns-in-Err-clause-stored : goal.returns-in-Err-clause-stored
returns-in-Err-clause-stored g c =
    words_store g.J.Source g.O.Sink g.E.Sink g.S.Shelf g.S.Disk.Disk g.M.Maker c.args.day c.refuse.result.0 c.args.outside.now c.refuse.new.err
    c.refuse_words.result (task_of c.args.day.0 c.args.words.now) c.in-Err.fault c.in-Err.ensures.answer c.refuse_words.ensures.memory c.refuse.ensures.told c.refuse.ensures.sound

pub returns-in-Err-clause-complete : goal.returns-in-Err-clause-complete
returns-in-Err-clause-complete g c =
    let err = g.E.Sink in
    let outside = c.args.outside.now in
    words_complete c.args.day.0 c.refuse.result.0 (scene g.J.Source g.O.Sink err g.S.Shelf g.M.Maker outside)
    (err.written c.refuse.new.err) (err.faults c.refuse.new.err) c.refuse_words.result (task_of c.args.day.0 c.args.words.now)
    c.in-Err.fault c.in-Err.ensures.answer c.refuse_words.ensures.memory c.refuse.ensures.told

pub run_task-requires-clause-plain : goal.run_task-requires-clause-plain
run_task-requires-clause-plain g c κs within = subst IsPlainRead c.in-Ok.ensures.answer (plain_read c.args.day.0 c.args.words.now c.requires.plain)
