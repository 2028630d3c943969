use Rattle.desk_replicas.proofs.Accepted.{edits_of}
use Rattle.desk_replicas.proofs.laws.history_has_edits.Goals as goal

pub returns : goal.returns
returns g c = λ opening last history legal. edits_of opening last history legal
