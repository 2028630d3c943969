use Rattle.std.proofs.Common.{Ok, Err, refl, inl}
use Rattle.command_line.proofs.StoreEnds.{said_status}
use Rattle.command_line.proofs.TalkEndings.{kind, never_usage, own}
use Rattle.command_line.proofs.program.run_talk.Goals as goal

pub returns-in-Ok-clause-statuses : goal.returns-in-Ok-clause-statuses
returns-in-Ok-clause-statuses g c = kind _ _ _ _ (own _ _ _ _ _ _ c.tell_end.ensures.told)

pub returns-in-Ok-clause-read : goal.returns-in-Ok-clause-read
returns-in-Ok-clause-read g c = never_usage _ _ _ _ (own _ _ _ _ _ _ c.tell_end.ensures.told)

pub returns-in-Ok-clause-talked : goal.returns-in-Ok-clause-talked
returns-in-Ok-clause-talked g c = record {
  last = c.talk.new.outside;
  end = Ok c.in-Ok.end;
  talked = inl c.in-Ok.ensures.talks;
  told = c.tell_end.ensures.told;
  soundly = c.tell_end.ensures.sound;
  stays = (refl, refl, refl);
}

pub returns-in-Err-clause-statuses : goal.returns-in-Err-clause-statuses
returns-in-Err-clause-statuses g c =
    let err = g.E.Sink in
    (said_status c.refuse.result.0 c.in-Err.refusal (err.written c.talk.new.outside.err) (err.written c.refuse.new.err)
    (err.faults c.talk.new.outside.err) (err.faults c.refuse.new.err) c.in-Err.ensures.kind c.refuse.ensures.told).0

pub returns-in-Err-clause-read : goal.returns-in-Err-clause-read
returns-in-Err-clause-read g c =
    let err = g.E.Sink in
    (said_status c.refuse.result.0 c.in-Err.refusal (err.written c.talk.new.outside.err) (err.written c.refuse.new.err)
    (err.faults c.talk.new.outside.err) (err.faults c.refuse.new.err) c.in-Err.ensures.kind c.refuse.ensures.told).1

pub returns-in-Err-clause-talked : goal.returns-in-Err-clause-talked
returns-in-Err-clause-talked g c = record {
  last = c.talk.new.outside;
  end = Err c.in-Err.refusal;
  talked = inl c.in-Err.ensures.talks;
  told = c.refuse.ensures.told;
  soundly = c.refuse.ensures.sound;
  stays = (refl, refl, refl);
}
