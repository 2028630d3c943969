use Rattle.std.proofs.Common.{◌≡◌, ◌<◌, ◌≤◌, length, take_all, sym, ap, subst, ◌∙◌, arith, List}
use Rattle.book.specs.Postings.{postings_of}
use Rattle.book.specs.declared.transaction.Txn.{Txn}
use Rattle.entry_balance.specs.Entry.{costs_fit, moved}
use Rattle.entry_balance.proofs.Adding.{list_all-at}
use Rattle.kept_turnover.specs.Keeping.{IsTurnover}
use Rattle.kept_turnover.proofs.Booking.{gains_txn}
use Rattle.kept_turnover.proofs.turnover.Turnover.of.Goals as goal

pub add-requires : goal.add-requires
add-requires c =
    list_all-at (λ (t : Txn). costs_fit t.postings) c.args.txns.now c.loop-txn.txn-index c.txn-item.result (omega arith) c.txn-item.is c.requires

pub loop-txn-preserved : goal.loop-txn-preserved
loop-txn-preserved c =
    gains_txn c.loop-txn.turnover.symbols c.add.new.self.symbols c.args.txns.now c.loop-txn.txn-index c.txn-item.result (omega arith) c.txn-item.is c.loop-txn.invariant c.in_ok-add.ensures

pub returns : goal.returns
returns c =
    let ts = c.args.txns.now in
    let past : length ts ≤ c.loop-txn.txn-index = omega arith in
    subst (λ (us : List Txn). IsTurnover c.loop-txn.turnover (moved (postings_of us))) (take_all c.loop-txn.txn-index ts past) c.loop-txn.invariant
