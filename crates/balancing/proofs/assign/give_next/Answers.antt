use Rattle.balancing.specs.Entering.{entering}
use Rattle.balancing.proofs.Giving.{here_range}
use Rattle.balancing.proofs.assign.give_next.Goals as goal

pub returns-in-Err-add_posting-clause-range : goal.returns-in-Err-add_posting-clause-range
returns-in-Err-add_posting-clause-range c = λ range seen h.
    here_range (entering c.args.form) seen c.args.given.now.items c.args.posting c.in-Ok.posting (c.in-Ok.ensures.given seen c.args.given.now.items h)
    (c.in-Err-add_posting.ensures.range range c.args.given.now.items h.here)
