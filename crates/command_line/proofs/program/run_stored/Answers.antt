use Rattle.std.proofs.Common.{Ok, Err, ℕ, List, length, refl, sym, subst, inl}
use Rattle.command_line.specs.Scenes.{scene}
use Rattle.command_line.proofs.StoreEnds.{said_status, written_end}
use Rattle.command_line.proofs.program.run_stored.Goals as goal

pub returns-in-Err-clause-statuses : goal.returns-in-Err-clause-statuses
returns-in-Err-clause-statuses g c =
    let err = g.E.Sink in
    (said_status c.refuse.result.0 c.in-Err.refusal (err.written c.answer_stored.new.outside.err) (err.written c.refuse.new.err)
    (err.faults c.answer_stored.new.outside.err) (err.faults c.refuse.new.err) c.in-Err.ensures.kind c.refuse.ensures.told).0

pub returns-in-Err-clause-read : goal.returns-in-Err-clause-read
returns-in-Err-clause-read g c =
    let err = g.E.Sink in
    (said_status c.refuse.result.0 c.in-Err.refusal (err.written c.answer_stored.new.outside.err) (err.written c.refuse.new.err)
    (err.faults c.answer_stored.new.outside.err) (err.faults c.refuse.new.err) c.in-Err.ensures.kind c.refuse.ensures.told).1

pub returns-in-Err-clause-stored : goal.returns-in-Err-clause-stored
returns-in-Err-clause-stored g c = record {
  last = c.answer_stored.new.outside;
  answer = Err c.in-Err.refusal;
  answers = inl c.in-Err.ensures.answers;
  ends = (c.refuse.ensures.told, refl);
  soundly = c.refuse.ensures.sound;
  stays = (refl, refl, refl);
}

pub returns-in-Ok-clause-stored : goal.returns-in-Ok-clause-stored
returns-in-Ok-clause-stored g c =
    let last = c.answer_stored.new.outside in
    let new = record last { streams = record (last.streams) { output = c.finish.new.out }; err = c.finish.new.err } in
    record {
      last = last;
      answer = Ok c.in-Ok.output;
      answers = inl c.in-Ok.ensures.answers;
      ends = written_end c.finish.result.0 (scene g.J.Source g.O.Sink g.E.Sink g.S.Shelf g.M.Maker last) (scene g.J.Source g.O.Sink g.E.Sink g.S.Shelf g.M.Maker new)
          c.in-Ok.output c.as_slice.result.now c.as_slice.ensures
          c.finish.ensures.statuses c.finish.ensures.written c.finish.ensures.quiet c.finish.ensures.prefix c.finish.ensures.rose c.finish.ensures.said;
      soundly = λ room. c.finish.ensures.sound (subst (λ (t : List ℕ). g.O.Sink.HasRoom last.streams.output (length t)) (sym c.as_slice.ensures) room);
      stays = (refl, refl, refl);
    }
