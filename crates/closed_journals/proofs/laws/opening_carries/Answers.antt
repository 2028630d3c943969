use Rattle.closed_journals.proofs.laws.opening_carries.Goals as goal
use Rattle.closed_journals.proofs.Lawful.{is_opened}

pub returns : goal.returns
returns c day year asked text output alone is = is_opened day year asked text output alone is
