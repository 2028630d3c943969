use Rattle.std.proofs.Common.{◌++◌, Option, sym, ap, ◌∙◌}
use Rattle.std.specs.Option.{option_to_list}
use Rattle.std.proofs.lemmas.List.{append-nil}
use Rattle.book.specs.declared.transaction.Txn.{Txn}
use Rattle.reached_walk.proofs.Noting.{none-at}
use Rattle.kept_books.proofs.exchanging.push_old.Goals as goal

pub returns-in-None : goal.returns-in-None
returns-in-None c =
    sym (ap (λ (o : Option Txn). c.args.txns.now.items ++ option_to_list o) (none-at c.args.book.now c.args.number c.in-None.ensures.lookup.3) ∙ append-nil c.args.txns.now.items)
