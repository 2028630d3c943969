use Rattle.balancing.proofs.Given.{set-again}
use Rattle.balancing.proofs.written.take_cause.Goals as goal

pub returns-clause-others : goal.returns-clause-others
returns-clause-others c = λ cause. set-again c.args.causes.now.items c.args.number c.replace.new.dest cause
