use Rattle.std.proofs.Common.{List, ap, subst, ◌∙◌}
use Rattle.book.specs.declared.transaction.Txn.{Txn}
use Rattle.watchers.specs.Watches.{AreOf, numbered_from}
use Rattle.book_laws.specs.Writing.{symbols_written}
use Rattle.kept_books.proofs.Renewing.{lent_of}
use Rattle.kept_books.proofs.walks.walks_with.Goals as goal

pub returns : goal.returns
returns c = record {
  kept = record { stand = c.in_ok-index.ensures.stand; days = c.in_ok-days.ensures; turnover = c.requires.turnover };
  watched = subst (λ (ts : List Txn). AreOf (numbered_from 0 ts) c.in_ok-watchers.watchers) c.in_ok-entries.ensures c.in_ok-watchers.ensures;
  symbols = c.in_ok-symbols.ensures ∙ ap (λ rs. symbols_written (lent_of rs)) c.as_slice.ensures.value ∙ ap symbols_written c.in_ok-entries.ensures;
}
