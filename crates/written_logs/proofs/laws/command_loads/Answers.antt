use Rattle.written_logs.proofs.laws.command_loads.Goals as goal
use Rattle.written_logs.proofs.Commanded.{loads, told}

pub returns-clause-written : goal.returns-clause-written
returns-clause-written c day year form log txns is = told day year form log txns is

pub returns-clause-loads : goal.returns-clause-loads
returns-clause-loads c year form log txns size is short = loads year form log txns size is short
