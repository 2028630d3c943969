use Rattle.std.proofs.Common.{◌≡◌, true, false, Bool, List, IfSome, sym, ap, subst, rules}
use Rattle.book.specs.declared.fault.Fault.{Fault}
use Rattle.book.specs.declared.transaction.Txn.{Txn}
use Rattle.entry_balance.specs.Settled.{AreSettled}
use Rattle.balancing.specs.Assigned.{whole, assigned_by}
use Rattle.balancing.specs.Back.{txns_back, causes_back}
use Rattle.balancing.specs.Check.{cause_in}
use Rattle.balancing.specs.Groups.{groups_of}
use Rattle.balancing.specs.Load.{book_of, carries_sum, told_if}
use Rattle.balancing.proofs.walk.told.Goals as goal

pub returns-then-carries_sum : goal.returns-then-carries_sum
returns-then-carries_sum c =
    let e = c.args.entries in
    let kept = c.args.kept.items in
    let carries : carries_sum c.args.fault.cause ≡ true = search rules in
    subst (λ (b : Bool). IfSome (cause_in c.told_whole.result) (λ (told : Fault). (written : List Txn) → AreSettled written (txns_back kept e.txns.items) (causes_back kept e.causes.items)
    → e.groups.items ≡ groups_of written → told ≡ told_if b c.args.fault (book_of (assigned_by whole written)))) (sym carries) c.told_whole.ensures

pub returns-else-carries_sum : goal.returns-else-carries_sum
returns-else-carries_sum c = λ written settled order.
    let not_carried : carries_sum c.args.fault.cause ≡ false = search rules in
    ap (λ (b : Bool). told_if b c.args.fault (book_of (assigned_by whole written))) (sym not_carried)
