use Rattle.std.proofs.Common.{Option, OnOk, refl, sym, ap, subst}
use Rattle.std.specs.Option.{option_copied}
use Rattle.book.specs.declared.transaction.Txn.{Txn}
use Rattle.kept_books.specs.Renewing.{LeavesWatches}
use Rattle.kept_books.proofs.watching.leave_watches.Goals as goal

pub returns-in-Some : goal.returns-in-Some
returns-in-Some c =
    subst (λ (o : Option Txn). OnOk c.remove.result (LeavesWatches c.args.number o c.args.watchers.now c.remove.new.self)) (sym (ap option_copied c.in-Some.is)) c.remove.ensures.ok

pub returns-in-None : goal.returns-in-None
returns-in-None c =
    subst (λ (o : Option Txn). LeavesWatches c.args.number o c.args.watchers.now c.args.watchers.now) (sym (ap option_copied c.in-None.is)) refl
