use Rattle.process_run.proofs.Ending.{said, six, two}
use Rattle.process_run.proofs.run.refuse.Goals as goal

pub returns-in-Encoding-clause-status : goal.returns-in-Encoding-clause-status
returns-in-Encoding-clause-status g c = said _ _ _ _ _ _ _ two c.say.ensures.told

pub returns-in-Memory-clause-status : goal.returns-in-Memory-clause-status
returns-in-Memory-clause-status g c = said _ _ _ _ _ _ _ six c.say-in-Memory.ensures.told
