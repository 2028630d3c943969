use Rattle.balancing.proofs.laws.faults.Goals as goal
use Rattle.balancing.proofs.Faulting.{load_faults, faults_load, one_fault}

pub returns-clause-one : goal.returns-clause-one
returns-clause-one c items fault unmarked is = load_faults items fault unmarked is

pub returns-clause-each : goal.returns-clause-each
returns-clause-each c items fault = faults_load items fault

pub returns-clause-only : goal.returns-clause-only
returns-clause-only c written a b = one_fault written a b
