use Rattle.std.proofs.Common.{◌≡◌, false, Option, sym, ap, ◌∙◌, subst, arith}
use Rattle.entry_balance.specs.Entry.{is_assignable}
use Rattle.balancing.specs.Assigned.{is_ready}
use Rattle.book.specs.declared.fault.Cause.{Cause}
use Rattle.book.specs.declared.transaction.Txn.{Txn}
use Rattle.entry_balance.specs.Settled.{IsSettled}
use Rattle.entry_balance.proofs.Causes.{if_ok}
use Rattle.balancing.proofs.Walked.{not_true, settled-lengths, settled-at, costs_known, visited, visited_none}
use Rattle.balancing.proofs.walk.visit.Goals as goal
use Rattle.balancing.proofs.walk.visit.Goals.{then-txns-number-via-then-txns-number, then-txns-number-via-else-txns-number+then-causes-number}

pub returns-then-txns-number : goal.returns-then-txns-number
returns-then-txns-number c = λ written before h ready turnover.
    let same = settled-lengths written c.args.txns.now c.args.causes.now h in
    visited_none written before c.args.group c.args.totals.now
    (elim c.then-txns-number.branch [
      | then-txns-number-via-then-txns-number w ↦ omega (arith, same.0, w.if-txns-number.true)
      | then-txns-number-via-else-txns-number+then-causes-number w ↦ omega (arith, same.1, w.if-causes-number.true)
    ]) turnover

pub returns : goal.returns
returns c =
    let t = c.index-txns-number.result in
    let told = c.index-causes-number.result in
    let number = c.args.group.1 in
    if_ok _ _ c.judge.result (λ fault j written before h ready turnover.
    let at = settled-at written c.args.txns.now c.args.causes.now h number t told c.if-txns-number.false in
    let s : IsSettled at.0 t told = subst (λ (x : Txn × Option Cause). IsSettled at.0 x.0 x.1) (λ i. (sym c.index-txns-number.is i, sym c.index-causes-number.is i)) at.2 in
    let own : is_assignable at.0.postings ≡ false = not_true _ (ap is_ready (sym at.1) ∙ ready) in
    visited at.0 t told own s before c.args.group.0 written number c.judge.new.totals fault at.1 (j (costs_known at.0 t told own s) before turnover))
    c.judge.ensures
