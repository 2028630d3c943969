use Rattle.reached_walk.proofs.Awaiting.{first-is, first-none}
use Rattle.reached_walk.proofs.Noting.{got-at}
use Rattle.reached_walk.proofs.place.first_from.Goals as goal

pub returns-in-Some : goal.returns-in-Some
returns-in-Some c = first-is c.args.spots.now c.args.at c.in-Some.spot.now (got-at c.args.spots.now c.args.at c.in-Some.spot.now c.in-Some.ensures.lookup.3.0 c.in-Some.ensures.lookup.1)

pub returns-in-None : goal.returns-in-None
returns-in-None c = first-none c.args.spots.now c.args.at c.in-None.ensures.lookup.3
