use Rattle.reached_walk.proofs.Awaiting.{none-passed}
use Rattle.reached_walk.proofs.Noting.{got-at}
use Rattle.reached_walk.proofs.place.passed.Goals as goal

pub behind-requires-clause-inside : goal.behind-requires-clause-inside
behind-requires-clause-inside c = c.in-Some.ensures.lookup.3.0

pub behind-requires-clause-there : goal.behind-requires-clause-there
behind-requires-clause-there c = got-at c.args.spots.now c.args.at c.in-Some.next.now c.in-Some.ensures.lookup.3.0 c.in-Some.ensures.lookup.1

pub returns-in-None : goal.returns-in-None
returns-in-None c = none-passed c.args.spots.now c.args.at c.args.spot c.in-None.ensures.lookup.3
