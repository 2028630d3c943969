use Rattle.closed_journals.proofs.laws.closing_loads.Goals as goal
use Rattle.closed_journals.proofs.Lawful.{is_closed}

pub returns : goal.returns
returns c day year asked text output both within early into ended is = is_closed day year asked text output both within early into ended is
