use Rattle.sample_journals.proofs.laws.samples_load.Goals as goal
use Rattle.sample_journals.proofs.Whole.{loads}

pub returns : goal.returns
returns c year count few = loads year count few
