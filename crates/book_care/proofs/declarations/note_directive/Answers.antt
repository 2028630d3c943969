use Rattle.book_care.specs.Declarations.{declared_by}
use Rattle.book_care.specs.Names.{has}
use Rattle.book_care.proofs.Naming.{note_some, note_none, on_ok}
use Rattle.book_care.proofs.declarations.note_directive.Goals as goal

pub returns-in-Some : goal.returns-in-Some
returns-in-Some c =
    on_ok c.add.result
    (λ h q. note_some q c.in-Some.name.now (declared_by c.args.check c.args.directive.now) (has c.args.names.now q) (has c.add.new.self q) c.in-Some.ensures (h q))
    c.add.ensures

pub returns-in-None : goal.returns-in-None
returns-in-None c = λ q. note_none q (declared_by c.args.check c.args.directive.now) (has c.args.names.now q) c.in-None.ensures
