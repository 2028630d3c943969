use Rattle.placed_sums.proofs.Lasting.{set_places, set_turns}
use Rattle.placed_sums.proofs.laws.bound_laws.Goals as goal

pub returns-clause-moves : goal.returns-clause-moves
returns-clause-moves c symbol book number new = set_turns symbol book number new

pub returns-clause-places : goal.returns-clause-places
returns-clause-places c symbol book number new = set_places symbol book number new
