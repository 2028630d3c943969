use Rattle.balancing.proofs.assign.difference.Goals as goal

pub returns-clause-value : goal.returns-clause-value
returns-clause-value c = c.difference_in.ensures.value

pub returns-clause-range : goal.returns-clause-range
returns-clause-range c = c.difference_in.ensures.range
