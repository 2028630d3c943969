use Rattle.book_laws.proofs.Reached.{dated-same, nodes-same, unmixed-same, weights-same}
use Rattle.book_laws.proofs.reach.forms_of_any_lines.Goals as goal

pub returns-clause-dated : goal.returns-clause-dated
returns-clause-dated c line txn = dated-same line txn

pub returns-clause-unmixed : goal.returns-clause-unmixed
returns-clause-unmixed c line txn = unmixed-same line txn

pub returns-clause-nodes : goal.returns-clause-nodes
returns-clause-nodes c line sum other postings = nodes-same line sum other postings

pub returns-clause-weights : goal.returns-clause-weights
returns-clause-weights c line weight set txns same = weights-same line weight same set txns
