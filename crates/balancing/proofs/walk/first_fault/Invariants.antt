use Rattle.std.proofs.Common.{◌≡◌, List, [], drop}
use Rattle.book.specs.declared.transaction.Posting.{Posting}
use Rattle.book.specs.declared.transaction.Txn.{Txn}
use Rattle.entry_balance.specs.Settled.{AreSettled}
use Rattle.balancing.specs.Assigned.{given_from_by}
use Rattle.balancing.specs.Back.{IsKept}
use Rattle.balancing.specs.Entering.{entering}
use Rattle.balancing.specs.Walk.{AreOwn}
use Rattle.balancing.proofs.Passing.{IsOn}
use Rattle.balancing.proofs.walk.first_fault.Given as goal

abbrev pub invariant-loop-group : goal.invariant-loop-group
invariant-loop-group l = record {
  walked : (written : List Txn) → AreSettled written l.initial.txns.items l.initial.causes.items → AreOwn written l.groups
      → (now : List Txn) × (seen : List Posting)
      × IsOn (entering l.initial.making.form) (given_from_by (entering l.initial.making.form) written [] l.groups) now l.txns.items l.causes.items l.groups (drop l.group-index l.groups) seen l.totals l.balances.own l.balances.below;
  form : l.making.form ≡ l.initial.making.form;
  back : IsKept l.initial.making.kept.items l.initial.txns.items l.initial.causes.items l.making.kept.items l.txns.items l.causes.items;
}
