use Rattle.shared_desk.proofs.Faulting.{rose}
use Rattle.shared_desk.proofs.laws.faults_are_counted.Goals as goal

pub returns : goal.returns
returns g c = λ opening last history legal any. rose opening last history legal any
