use Rattle.index_cells.proofs.tests.check_plain.Goals as goal

pub returns : goal.returns
returns c = c.is_plain-plain.ensures.0 c.if-not-plain.false
