use Rattle.additions.proofs.Telling.{quiet_told}
use Rattle.additions.proofs.laws.quiet_entries_are_told.Goals as goal

pub returns : goal.returns
returns c = quiet_told
