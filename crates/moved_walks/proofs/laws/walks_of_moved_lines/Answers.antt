use Rattle.moved_walks.proofs.Walks.{asked-moved, checked-moved, of-moved}
use Rattle.moved_walks.proofs.laws.walks_of_moved_lines.Goals as goal

pub returns-clause-kept : goal.returns-clause-kept
returns-clause-kept c n by written book kept h = of-moved n by written book kept h

pub returns-clause-checked : goal.returns-clause-checked
returns-clause-checked c n by edited before after old new h = checked-moved n by edited before after old new h

pub returns-clause-asked : goal.returns-clause-asked
returns-clause-asked c n by edited before after old new h = asked-moved n by edited before after old new h
