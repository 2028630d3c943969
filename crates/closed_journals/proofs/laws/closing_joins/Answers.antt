use Rattle.closed_journals.proofs.laws.closing_joins.Goals as goal
use Rattle.closed_journals.proofs.Lawful.{is_joined_text}

pub returns : goal.returns
returns c day year asked text output both within early into is = is_joined_text day year asked text output both within early into is
