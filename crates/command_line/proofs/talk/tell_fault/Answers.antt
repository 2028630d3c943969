use Rattle.command_line.proofs.TalkEndings.{fault_read, fault_write, sound_read, sound_write}
use Rattle.command_line.proofs.talk.tell_fault.Goals as goal

pub returns-in-Read-clause-told : goal.returns-in-Read-clause-told
returns-in-Read-clause-told g c =
    let sink = g.E.Sink in
    fault_read c.args.way c.say.result.0 (sink.written c.args.err.now) (sink.written c.say.new.err) (sink.faults c.args.err.now) (sink.faults c.say.new.err) c.in-Read.is c.say.ensures.told

pub returns-in-Write-clause-told : goal.returns-in-Write-clause-told
returns-in-Write-clause-told g c =
    let sink = g.E.Sink in
    let say = c.say-in-Write in
    fault_write c.args.way say.result.0 (sink.written c.args.err.now) (sink.written say.new.err) (sink.faults c.args.err.now) (sink.faults say.new.err) c.in-Write.is say.ensures.told

pub returns-in-Read-clause-sound : goal.returns-in-Read-clause-sound
returns-in-Read-clause-sound g c = sound_read c.args.way c.say.result.0 (λ n. g.E.Sink.HasRoom c.args.err.now n) c.in-Read.is c.say.ensures.sound

pub returns-in-Write-clause-sound : goal.returns-in-Write-clause-sound
returns-in-Write-clause-sound g c =
    let say = c.say-in-Write in
    sound_write c.args.way say.result.0 (λ n. g.E.Sink.HasRoom c.args.err.now n) c.in-Write.is say.ensures.sound
