use Rattle.book.proofs.Others.{same-either}
use Rattle.book.proofs.noting.note_amount.Goals as goal

pub returns-clause-others : goal.returns-clause-others
returns-clause-others c = same-either c.note.result c.args.number c.args.table.now c.note.new.self _ c.note.ensures.ok c.note.ensures.err
