use Rattle.desk_replicas.proofs.Accepted.{at_place}
use Rattle.desk_replicas.proofs.laws.replicas_show_a_place.Goals as goal

pub returns : goal.returns
returns g c = λ opening last history those records events n shown end has start are goes.
    at_place opening last history those records events n shown end has start are goes
