use Rattle.balancing.proofs.laws.sums_at_places.Goals as goal
use Rattle.balancing.proofs.SolvingUnits.{sum_at, other_at}

pub returns-clause-sum : goal.returns-clause-sum
returns-clause-sum c book account symbol below place few = sum_at book few account below place symbol

pub returns-clause-other : goal.returns-clause-other
returns-clause-other c book account symbol below place few = other_at book few account below place symbol
