use Rattle.std.proofs.Common.{List, sym, subst}
use Rattle.balancing.specs.declared.written.Written.{Written}
use Rattle.balancing.specs.Back.{IsKept}
use Rattle.std.proofs.Common.{set}
use Rattle.balancing.proofs.Back.{kept_back, kept_later}
use Rattle.balancing.proofs.written.keep.Goals as goal

pub returns-clause-txns : goal.returns-clause-txns
returns-clause-txns c = c.take_txn-txn.ensures.others

pub returns-clause-causes : goal.returns-clause-causes
returns-clause-causes c = c.take_cause-cause.ensures.others

pub returns-clause-back : goal.returns-clause-back
returns-clause-back c =
    let w : Written = record { number = c.args.number; txn = c.take_txn-txn.result; cause = c.take_cause-cause.result } in
    subst (λ (ws : List Written). IsKept c.args.kept.now.items c.args.txns.now.items c.args.causes.now.items ws c.take_txn-txn.new.txns.items c.take_cause-cause.new.causes.items) (sym c.in_ok-push.ensures.items)
    (kept_back c.args.kept.now.items w c.args.txns.now.items c.take_txn-txn.new.txns.items c.args.causes.now.items c.take_cause-cause.new.causes.items c.take_txn-txn.ensures.taken c.take_cause-cause.ensures.taken
    c.take_txn-txn.ensures.others c.take_cause-cause.ensures.others)

pub returns-clause-later : goal.returns-clause-later
returns-clause-later c = λ txn cause.
    let w : Written = record { number = c.args.number; txn = c.take_txn-txn.result; cause = c.take_cause-cause.result } in
    subst (λ (ws : List Written). IsKept c.args.kept.now.items c.args.txns.now.items c.args.causes.now.items ws (set c.take_txn-txn.new.txns.items c.args.number txn) (set c.take_cause-cause.new.causes.items c.args.number cause)) (sym c.in_ok-push.ensures.items)
    (kept_later c.args.kept.now.items w c.args.txns.now.items c.take_txn-txn.new.txns.items c.args.causes.now.items c.take_cause-cause.new.causes.items c.take_txn-txn.ensures.taken c.take_cause-cause.ensures.taken
    c.take_txn-txn.ensures.others c.take_cause-cause.ensures.others txn cause)
