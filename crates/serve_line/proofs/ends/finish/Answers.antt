use Rattle.std.proofs.Common.{ℕ, ◌+◌, List, length, inl, inr, subst, sym, add-zero}
use Rattle.std.proofs.lemmas.Bool.{false≢true}
use Rattle.command_line.specs.Answers.{Wrote, WrotePrefix}
use Rattle.serve_line.proofs.ServeEnds.{is_end}
use Rattle.serve_line.proofs.ends.finish.Goals as goal

pub returns-in-Ok-clause-written : goal.returns-in-Ok-clause-written
returns-in-Ok-clause-written g c =
    let sink = g.O.Sink in
    let err = g.E.Sink in
    let F : List ℕ → Type 0 = λ line. Wrote (sink.written c.args.out.now) (sink.written c.write_all.new.out) line in
    inl (
      is_end c.args.ended.now.failed c.say_end.result.0 (err.written c.args.err.now) (err.written c.say_end.new.err) (err.faults c.args.err.now)
          (err.faults c.say_end.new.err) c.say_end.ensures.well c.say_end.ensures.fault,
      subst F c.as_slice.ensures c.in-Ok.ensures.ok,
    )

pub returns-in-Ok-clause-sound : goal.returns-in-Ok-clause-sound
returns-in-Ok-clause-sound g c = λ room err_room. c.say_end.ensures.sound err_room

pub returns-in-Err-clause-written : goal.returns-in-Err-clause-written
returns-in-Err-clause-written g c =
    let sink = g.O.Sink in
    let F : List ℕ → Type 0 = λ line. WrotePrefix (sink.written c.args.out.now) (sink.written c.write_all.new.out) line in
    inr (c.say.ensures.told, c.in-Err.ensures.rose, subst F c.as_slice.ensures c.in-Err.ensures.prefix)

pub returns-in-Err-clause-sound : goal.returns-in-Err-clause-sound
returns-in-Err-clause-sound g c = λ room err_room.
    let F : ℕ → Type 0 = λ n. g.O.Sink.HasRoom c.args.out.now n in
    let G : List ℕ → Type 0 = λ line. F (length line + 0) in
    let fails = c.in-Err.ensures.sound 0 (subst G (sym c.as_slice.ensures) (subst F (sym (add-zero (length c.args.ended.now.line))) room)) in
    absurd (false≢true fails.0)
