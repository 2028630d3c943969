use Rattle.sample_journals.proofs.laws.samples_tell.Goals as goal
use Rattle.sample_journals.proofs.Told.{told}

pub returns : goal.returns
returns c count some = told count some
