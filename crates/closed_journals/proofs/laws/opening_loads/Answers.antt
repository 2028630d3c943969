use Rattle.closed_journals.proofs.laws.opening_loads.Goals as goal
use Rattle.closed_journals.proofs.Lawful.{is_opened_behind}

pub returns : goal.returns
returns c day year asked text output alone within early into is = is_opened_behind day year asked text output alone within early into is
