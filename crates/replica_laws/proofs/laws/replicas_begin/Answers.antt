use Rattle.replica_laws.proofs.Fed.{begins_so}
use Rattle.replica_laws.proofs.laws.replicas_begin.Goals as goal

pub returns : goal.returns
returns c = λ opening events frame shown made fed kind makes. begins_so opening made events frame shown fed kind makes
