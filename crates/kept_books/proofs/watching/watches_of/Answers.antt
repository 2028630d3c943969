use Rattle.std.proofs.Common.{List, IfOk, ap, subst, ◌∙◌}
use Rattle.book.specs.declared.transaction.Txn.{Txn}
use Rattle.watchers.specs.Watches.{AreOf, numbered_from}
use Rattle.kept_books.proofs.Renewing.{lent_of, watches_all}
use Rattle.kept_books.proofs.watching.watches_of.Goals as goal

pub returns : goal.returns
returns c =
    subst (λ (ts : List Txn). IfOk c.watches_renewed.result (AreOf (numbered_from 0 ts))) (ap lent_of c.as_slice-2.ensures.value)
    (watches_all c.watches_renewed.result (lent_of c.as_slice.result.now) (lent_of c.as_slice-2.result.now) c.in_ok-none.none (ap lent_of (c.as_slice.ensures.value ∙ c.no_entries-nothing.ensures)) c.in_ok-none.ensures c.watches_renewed.ensures)
