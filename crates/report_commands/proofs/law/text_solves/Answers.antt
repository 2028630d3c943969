use Rattle.report_commands.proofs.law.text_solves.Goals as goal
use Rattle.balancing.proofs.Solving.{load_solves, solves_loads}
use Rattle.report_commands.proofs.Unmarked.{reads_unmarked}

pub returns-clause-one : goal.returns-clause-one
returns-clause-one c year text items book read is = load_solves items book (reads_unmarked year text items read) is

pub returns-clause-each : goal.returns-clause-each
returns-clause-each c year text items book read solves = solves_loads items book solves
