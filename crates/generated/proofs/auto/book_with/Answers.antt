use Rattle.std.proofs.Common.{map, refl}
use Rattle.query.specs.OwnLetters.{own_in}
use Rattle.generated.specs.Auto.{letters_of}
use Rattle.generated.specs.Queries.{asked_by}
use Rattle.generated.proofs.Ending.{letters_told}
use Rattle.generated.proofs.auto.book_with.Goals as goal

pub returns-in-Ok : goal.returns-in-Ok
returns-in-Ok c =
    let rules = map asked_by c.args.reads.now in
    letters_told c.ask_with.result (own_in c.in-Ok.types) (letters_of c.args.items.now) rules rules c.args.txns.now c.in-Ok.ensures refl c.ask_with.ensures
