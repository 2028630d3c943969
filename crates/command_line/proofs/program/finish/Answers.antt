use Rattle.std.proofs.Common.{ℕ, length, subst, sym, inr, add-zero, arith}
use Rattle.std.proofs.lemmas.Bool.{false≢true}
use Rattle.refusals.specs.Errors.{write_fault_line}
use Rattle.command_line.proofs.Endings.{not_same, said_four}
use Rattle.command_line.proofs.program.finish.Goals as goal

pub returns-in-Err-clause-statuses : goal.returns-in-Err-clause-statuses
returns-in-Err-clause-statuses g c =
    let sink = g.E.Sink in
    inr (said_four c.say.result.0 write_fault_line (sink.written c.args.err.now) (sink.written c.say.new.err) (sink.faults c.args.err.now) (sink.faults c.say.new.err) c.say.ensures.told)

pub returns-in-Err-clause-written : goal.returns-in-Err-clause-written
returns-in-Err-clause-written g c = λ e.
    let sink = g.E.Sink in
    absurd (not_same c.say.result.0 4 0 (said_four c.say.result.0 write_fault_line (sink.written c.args.err.now) (sink.written c.say.new.err) (sink.faults c.args.err.now) (sink.faults c.say.new.err) c.say.ensures.told) e (λ x. omega arith))

pub returns-in-Err-clause-quiet : goal.returns-in-Err-clause-quiet
returns-in-Err-clause-quiet g c = λ e.
    let sink = g.E.Sink in
    absurd (not_same c.say.result.0 4 0 (said_four c.say.result.0 write_fault_line (sink.written c.args.err.now) (sink.written c.say.new.err) (sink.faults c.args.err.now) (sink.faults c.say.new.err) c.say.ensures.told) e (λ x. omega arith))

pub returns-in-Err-clause-sound : goal.returns-in-Err-clause-sound
returns-in-Err-clause-sound g c = λ h.
    let F : ℕ → Type 0 = λ n. g.O.Sink.HasRoom c.args.out.now n in
    let fails = c.in-Err.ensures.sound 0 (subst F (sym (add-zero (length c.args.output.now))) h) in
    absurd (false≢true fails.0)
