use Rattle.report_commands.proofs.law.text_faults.Goals as goal
use Rattle.balancing.proofs.Faulting.{load_faults, faults_load}
use Rattle.report_commands.proofs.Unmarked.{reads_unmarked}

pub returns-clause-one : goal.returns-clause-one
returns-clause-one c year text items fault read is = load_faults items fault (reads_unmarked year text items read) is

pub returns-clause-each : goal.returns-clause-each
returns-clause-each c year text items fault read has = faults_load items fault has
