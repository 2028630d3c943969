use Rattle.shared_desk.proofs.Counting.{tallied}
use Rattle.shared_desk.proofs.laws.counts_are_kept.Goals as goal

pub returns : goal.returns
returns g c = λ opening last history legal counts. tallied opening last history legal counts
