use Rattle.closed_journals.proofs.laws.closing_empties.Goals as goal
use Rattle.closed_journals.proofs.Lawful.{is_emptied}

pub returns : goal.returns
returns c day year asked text output alone within early into ended is = is_emptied day year asked text output alone within early into ended is
