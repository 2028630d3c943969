use Rattle.std.proofs.Common.{Ok, Err, ℕ, List, length, refl, sym, subst}
use Rattle.command_line.specs.Scenes.{scene}
use Rattle.command_line.proofs.StoreEnds.{said_status, written_end}
use Rattle.command_line.proofs.program.run_sample.Goals as goal

pub returns-in-Err-clause-statuses : goal.returns-in-Err-clause-statuses
returns-in-Err-clause-statuses g c =
    let err = g.E.Sink in
    (said_status c.refuse.result.0 c.in-Err.refusal (err.written c.args.outside.now.err) (err.written c.refuse.new.err)
    (err.faults c.args.outside.now.err) (err.faults c.refuse.new.err) c.in-Err.ensures.kind c.refuse.ensures.told).0

pub returns-in-Err-clause-read : goal.returns-in-Err-clause-read
returns-in-Err-clause-read g c =
    let err = g.E.Sink in
    (said_status c.refuse.result.0 c.in-Err.refusal (err.written c.args.outside.now.err) (err.written c.refuse.new.err)
    (err.faults c.args.outside.now.err) (err.faults c.refuse.new.err) c.in-Err.ensures.kind c.refuse.ensures.told).1

pub returns-in-Err-clause-sampled : goal.returns-in-Err-clause-sampled
returns-in-Err-clause-sampled g c = record {
  answer = Err c.in-Err.refusal;
  told = c.in-Err.ensures.told;
  ends = (c.refuse.ensures.told, refl);
  soundly = c.refuse.ensures.sound;
  stays = (refl, refl, refl);
}

pub returns-in-Ok-clause-sampled : goal.returns-in-Ok-clause-sampled
returns-in-Ok-clause-sampled g c =
    let last = c.args.outside.now in
    let new = record last { streams = record (last.streams) { output = c.finish.new.out }; err = c.finish.new.err } in
    record {
      answer = Ok c.in-Ok.output;
      told = c.in-Ok.ensures.told;
      ends = written_end c.finish.result.0 (scene g.J.Source g.O.Sink g.E.Sink g.S.Shelf g.M.Maker last) (scene g.J.Source g.O.Sink g.E.Sink g.S.Shelf g.M.Maker new)
          c.in-Ok.output c.as_slice.result.now c.as_slice.ensures
          c.finish.ensures.statuses c.finish.ensures.written c.finish.ensures.quiet c.finish.ensures.prefix c.finish.ensures.rose c.finish.ensures.said;
      soundly = λ room. c.finish.ensures.sound (subst (λ (t : List ℕ). g.O.Sink.HasRoom last.streams.output (length t)) (sym c.as_slice.ensures) room);
      stays = (refl, refl, refl);
    }
