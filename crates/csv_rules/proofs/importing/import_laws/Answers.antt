use Rattle.csv_rules.proofs.NewOnes.{twice-new, twice-state, further-new, further-state}
use Rattle.csv_rules.proofs.importing.import_laws.Goals as goal

pub returns-clause-twice_new : goal.returns-clause-twice_new
returns-clause-twice_new c name state ts ordered = twice-new name state ts

pub returns-clause-twice_state : goal.returns-clause-twice_state
returns-clause-twice_state c name state ts ordered = twice-state name state ts

pub returns-clause-further_new : goal.returns-clause-further_new
returns-clause-further_new c name state ts us ordered = further-new name state ts us ordered

pub returns-clause-further_state : goal.returns-clause-further_state
returns-clause-further_state c name state ts us ordered = further-state name state ts us ordered
