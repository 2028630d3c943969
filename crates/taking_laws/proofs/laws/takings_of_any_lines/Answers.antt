use Rattle.taking_laws.proofs.Taken.{keeps-same, taken-same}
use Rattle.taking_laws.proofs.laws.takings_of_any_lines.Goals as goal

pub returns-clause-taken : goal.returns-clause-taken
returns-clause-taken c line book = taken-same line 0 book

pub returns-clause-kept : goal.returns-clause-kept
returns-clause-kept c line kept book h = keeps-same line book kept h
