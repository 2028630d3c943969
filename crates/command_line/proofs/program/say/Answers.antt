use Rattle.std.proofs.Common.{ℕ, length, subst, sym, add-zero}
use Rattle.std.proofs.lemmas.Bool.{false≢true}
use Rattle.command_line.proofs.program.say.Goals as goal

pub returns-in-Err-clause-sound : goal.returns-in-Err-clause-sound
returns-in-Err-clause-sound g c = λ h.
    let F : ℕ → Type 0 = λ n. g.E.Sink.HasRoom c.args.err.now n in
    let fails = c.in-Err.ensures.sound 0 (subst F (sym (add-zero (length c.args.line.now))) h) in
    absurd (false≢true fails.0)
