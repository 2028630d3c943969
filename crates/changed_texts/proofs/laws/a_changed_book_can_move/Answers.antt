use Rattle.changed_texts.proofs.Txns.{book_can}
use Rattle.changed_texts.proofs.laws.a_changed_book_can_move.Goals as goal

pub returns : goal.returns
returns c = λ items n by old t u book here was can solves. book_can items n by old t u book here was can solves
