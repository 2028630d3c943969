use Rattle.std.proofs.Common.{Result, sym, subst}
use Rattle.serve_commands.specs.Lines.{IsSaid}
use Rattle.serve_commands.specs.declared.outcome.Tally.{Tally}
use Rattle.serve_commands.specs.declared.outcome.Unserved.{Unserved}
use Rattle.serve_commands.proofs.answer.say.Goals as goal

pub returns-in-Ok-clause-said : goal.returns-in-Ok-clause-said
returns-in-Ok-clause-said c =
    subst (λ (s : Result Tally Unserved). IsSaid c.args.name.now s c.say_tally.result) (sym c.in-Ok.is) (c.say_tally.ensures.said c.args.name.now)
