use Rattle.additions.proofs.Unended.{added_behind, added_told}
use Rattle.additions.proofs.laws.added_goes_behind.Goals as goal

pub returns-clause-behind : goal.returns-clause-behind
returns-clause-behind c = added_behind

pub returns-clause-told : goal.returns-clause-told
returns-clause-told c = added_told
