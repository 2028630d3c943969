use Rattle.std.proofs.Common.{List, IfOk, subst}
use Rattle.book.specs.declared.transaction.Txn.{Txn}
use Rattle.kept_books.specs.Beginning.{IsRenewal}
use Rattle.kept_books.specs.Rewriting.{meant}
use Rattle.kept_books.proofs.written.renewal_of.Goals as goal

pub returns : goal.returns
returns c = subst (λ (ts : List Txn). IfOk c.renewal_by.result (IsRenewal ts (meant c.args.rewriting.now))) c.in_ok-former.ensures c.renewal_by.ensures
