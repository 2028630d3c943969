use Rattle.moved_lines.proofs.Solving.{items-can, solved-can}
use Rattle.moved_lines.proofs.laws.a_solved_book_can_move.Goals as goal

pub returns-clause-solved : goal.returns-clause-solved
returns-clause-solved c n by written book s can = solved-can by n written book s can

pub returns-clause-items : goal.returns-clause-items
returns-clause-items c n by items can = items-can n by items can
