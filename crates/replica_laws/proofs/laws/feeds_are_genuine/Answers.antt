use Rattle.replica_laws.proofs.Fed.{all_fed_genuine}
use Rattle.replica_laws.proofs.laws.feeds_are_genuine.Goals as goal

pub returns : goal.returns
returns c = λ opening events frames made fed. all_fed_genuine opening made events frames fed
