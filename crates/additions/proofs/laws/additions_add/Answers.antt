use Rattle.additions.proofs.Answering.{whole_told}
use Rattle.additions.proofs.laws.additions_add.Goals as goal

pub returns : goal.returns
returns c = whole_told
