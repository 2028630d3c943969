use Rattle.std.proofs.Common.{List, IfOk, subst, ◌∙◌}
use Rattle.book.specs.declared.transaction.Txn.{Txn}
use Rattle.watchers.specs.Watches.{AreOf, numbered_from}
use Rattle.kept_books.proofs.watching.no_watches.Goals as goal

pub returns : goal.returns
returns c = subst (λ (ts : List Txn). IfOk c.of.result (AreOf (numbered_from 0 ts))) (c.as_slice.ensures.value ∙ c.new-none.ensures.items) c.of.ensures
