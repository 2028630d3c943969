use Rattle.balancing.proofs.laws.solves.Goals as goal
use Rattle.balancing.proofs.Solving.{load_solves, solves_loads, solves_once}

pub returns-clause-one : goal.returns-clause-one
returns-clause-one c items book unmarked is = load_solves items book unmarked is

pub returns-clause-each : goal.returns-clause-each
returns-clause-each c items book = solves_loads items book

pub returns-clause-only : goal.returns-clause-only
returns-clause-only c written a b = solves_once written a b
