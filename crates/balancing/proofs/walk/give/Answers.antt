use Rattle.std.proofs.Common.{◌≡◌, ◌≤◌, ◌<◌, length, inl, inr, List, Option, None, Some, true, refl, sym, ap, ◌∙◌, subst, rules}
use Rattle.std.specs.List.{slice_get}
use Rattle.book.specs.declared.fault.Cause.{Cause}
use Rattle.book.specs.declared.transaction.Txn.{Txn}
use Rattle.entry_balance.specs.Entry.{is_assignable}
use Rattle.entry_balance.specs.Tally.{IsRange}
use Rattle.balancing.specs.Back.{IsKept}
use Rattle.balancing.specs.Entering.{entering}
use Rattle.balancing.specs.Walk.{IsGiven}
use Rattle.balancing.proofs.Back.{kept_same}
use Rattle.balancing.proofs.Making.{asked-at, there-at, kept_given, past_given, made_given, ranged_given}
use Rattle.balancing.proofs.walk.give.Goals as goal
use Rattle.balancing.proofs.walk.give.Goals.{then-len-number-via-then-len-number, then-len-number-via-else-len-number+then-len-number-2}

pub returns-then-len-number-clause-given : goal.returns-then-len-number-clause-given
returns-then-len-number-clause-given c = λ written seen h own balance asked.
    let b = c.args.balances.now in
    past_given (entering c.args.making.now.form) written c.args.txns.now.items c.args.causes.now.items seen c.args.group b.own b.below h asked
    (elim c.then-len-number.branch [
      | then-len-number-via-then-len-number w ↦ let less : length c.args.txns.now.items ≤ c.args.group.1 = search rules in inl less
      | then-len-number-via-else-len-number+then-len-number-2 w ↦ let less : length c.args.causes.now.items ≤ c.args.group.1 = search rules in inr less
    ])

pub returns-then-len-number-clause-back : goal.returns-then-len-number-clause-back
returns-then-len-number-clause-back c = kept_same _ _ _

pub returns-then-not-is_assignable-clause-given : goal.returns-then-not-is_assignable-clause-given
returns-then-not-is_assignable-clause-given c = λ written seen h own balance asked.
    let b = c.args.balances.now in
    let t = c.index-written.result.now in
    let less : c.args.group.1 < length c.args.txns.now.items = search rules in
    kept_given (entering c.args.making.now.form) written c.args.txns.now.items c.args.causes.now.items seen c.args.group b.own b.below h asked t less c.index-written.ensures
    (ap is_assignable (sym c.as_slice.ensures) ∙ sym c.is_assignable.ensures ∙ c.if-not-is_assignable.true)

pub returns-then-not-is_assignable-clause-back : goal.returns-then-not-is_assignable-clause-back
returns-then-not-is_assignable-clause-back c = kept_same _ _ _

pub returns-in-Ok-clause-given : goal.returns-in-Ok-clause-given
returns-in-Ok-clause-given c = λ written seen h own balance asked.
    let enter = entering c.args.making.now.form in
    let b = c.args.balances.now in
    let old = c.args.txns.now.items in
    let n = c.args.group.1 in
    let there = c.index-written.result.now in
    let less : n < length old = search rules in
    let t = c.in_ok-txn.txn in
    let same : t ≡ there = c.in_ok-txn.ensures in
    let taken : slice_get old n ≡ Some t = there-at there old n less c.index-written.ensures ∙ ap Some (sym same) in
    let assignable : is_assignable t.postings ≡ true = ap (λ (x : Txn). is_assignable x.postings) same ∙ ap is_assignable (sym c.as_slice.ensures) ∙ sym c.is_assignable.ensures ∙ c.if-not-is_assignable.false in
    let asked_here = asked-at b.own b.below old n t taken asked in
    let s = c.in-Ok.settled in
    subst (λ (x : List Txn × List (Option Cause)). IsGiven enter written seen c.args.group b.own b.below x.0 x.1 None)
    (λ i. (sym (c.put_settled.ensures.txns ∙ c.in_ok-keep.ensures.txns s.txn) i, sym (c.put_settled.ensures.causes ∙ c.in_ok-keep.ensures.causes s.cause) i))
    (made_given enter written old c.args.causes.now.items seen c.args.group b.own b.below h asked t s.txn s.cause taken assignable (c.in-Ok.ensures.given seen balance asked_here))

pub returns-in-Ok-clause-back : goal.returns-in-Ok-clause-back
returns-in-Ok-clause-back c =
    let s = c.in-Ok.settled in
    subst (λ (x : List Txn × List (Option Cause)). IsKept c.args.making.now.kept.items c.args.txns.now.items c.args.causes.now.items c.keep.new.kept.items x.0 x.1)
    (λ i. (sym c.put_settled.ensures.txns i, sym c.put_settled.ensures.causes i)) (c.in_ok-keep.ensures.later s.txn s.cause)

pub returns-in-Err-Range-clause-given : goal.returns-in-Err-Range-clause-given
returns-in-Err-Range-clause-given c = λ written seen h own balance asked.
    let enter = entering c.args.making.now.form in
    let b = c.args.balances.now in
    let old = c.args.txns.now.items in
    let n = c.args.group.1 in
    let there = c.index-written.result.now in
    let less : n < length old = search rules in
    let t = c.in_ok-txn.txn in
    let same : t ≡ there = c.in_ok-txn.ensures in
    let taken : slice_get old n ≡ Some t = there-at there old n less c.index-written.ensures ∙ ap Some (sym same) in
    let assignable : is_assignable t.postings ≡ true = ap (λ (x : Txn). is_assignable x.postings) same ∙ ap is_assignable (sym c.as_slice.ensures) ∙ sym c.is_assignable.ensures ∙ c.if-not-is_assignable.false in
    let asked_here = asked-at b.own b.below old n t taken asked in
    ranged_given enter written old c.args.causes.now.items seen c.args.group b.own b.below h asked t _ _ _ taken assignable own
    (c.in-Err-Range.ensures.range (subst IsRange (sym c.in-Err-Range.field-0-is) tt) seen balance asked_here) refl

pub returns-in-Err-Range-clause-back : goal.returns-in-Err-Range-clause-back
returns-in-Err-Range-clause-back c = c.in_ok-keep.ensures.back
