use Rattle.replica_laws.proofs.Fed.{goes_on}
use Rattle.replica_laws.proofs.laws.replicas_go_on.Goals as goal

pub returns : goal.returns
returns c = λ opening events n shown end steps made fed here leads. goes_on opening made events n shown end steps fed here leads
