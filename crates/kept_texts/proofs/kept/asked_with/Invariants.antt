use Rattle.std.proofs.Common.{◌++◌, List, take}
use Rattle.book.specs.declared.transaction.Txn.{Txn}
use Rattle.asked_days.specs.Asked.{AreOf}
use Rattle.kept_texts.proofs.kept.asked_with.Given as goal

abbrev pub invariant-loop-txn : goal.invariant-loop-txn
invariant-loop-txn l = (book : List Txn) → AreOf book l.asked → AreOf (book ++ take l.txn-index l.txns) l.all
