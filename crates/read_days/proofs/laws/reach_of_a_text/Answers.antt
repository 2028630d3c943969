use Rattle.read_days.proofs.Items.{plain_reach}
use Rattle.read_days.proofs.laws.reach_of_a_text.Goals as goal

pub returns-clause-plain : goal.returns-clause-plain
returns-clause-plain c year text items reads edit is set after unmixed = plain_reach year text items reads edit is set after unmixed

pub returns-clause-none : goal.returns-clause-none
returns-clause-none c year text items reads edit is none = λ set after unmixed. none set after (plain_reach year text items reads edit is set after unmixed)
