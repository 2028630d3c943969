use Rattle.moved_lines.proofs.Numbering.{items-moved, pieces-moved}
use Rattle.moved_lines.proofs.laws.parts_of_moved_items.Goals as goal

pub returns-clause-txns : goal.returns-clause-txns
returns-clause-txns c n by items = items-moved n by items

pub returns-clause-pieces : goal.returns-clause-pieces
returns-clause-pieces c n by items = pieces-moved n by items
