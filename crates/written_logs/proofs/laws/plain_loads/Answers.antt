use Rattle.written_logs.proofs.laws.plain_loads.Goals as goal
use Rattle.balancing.proofs.Solving.{solves_loads}
use Rattle.written_logs.proofs.Whole.{plain_loads}

pub returns : goal.returns
returns c shape detail year txns own are short = plain_loads shape detail year txns solves_loads own are short
