use Rattle.std.proofs.Common.{◌≡◌, [], None, is_some, true, List, rules, refl, sym, ap, ◌∙◌, subst}
use Rattle.std.proofs.lemmas.List.{get_or_default}
use Rattle.entry_balance.specs.Entry.{moved}
use Rattle.entry_balance.specs.Values.{Value}
use Rattle.balancing.specs.Assigned.{given_from_by}
use Rattle.balancing.specs.Entering.{entering}
use Rattle.assertions.specs.Kept.{are_asked}
use Rattle.balancing.specs.Walk.{IsWalked}
use Rattle.balancing.proofs.Back.{kept_same, kept_on}
use Rattle.balancing.proofs.Balanced.{drop_past}
use Rattle.balancing.proofs.Passing.{here, next_ready, given_in, given_settled, given_asked, on_given, on_passed, on_more, on_stop, on_end}
use Rattle.balancing.proofs.Walked.{none-from, walk_none}
use Rattle.balancing.proofs.walk.first_fault.Goals as goal

pub loop-group-init : goal.loop-group-init
loop-group-init c = record {
  walked = λ written h own.
      let enter = entering c.args.making.now.form in
      let b = c.in_ok-balances.balances in
      let groups = c.args.groups.now in
      let all = given_from_by enter written [] groups in (
        written,
        [],
        record {
          given = record {
            rest = refl;
            owned = own;
            settled = h;
            asked = ap (are_asked b.own b.below) (sym c.as_slice.ensures.value) ∙ c.in_ok-balances.ensures.asked;
          };
          walked = subst (λ (sums : List Value). IsWalked all groups groups [] [] sums b.own b.below) (sym c.new-totals.ensures) (walk_none all groups b.own b.below c.in_ok-balances.ensures.fresh);
        },
      );
  form = refl;
  back = kept_same _ _ _;
}

pub returns-then-is_some-clause-told : goal.returns-then-is_some-clause-told
returns-then-is_some-clause-told c = λ written h own.
    let enter = entering c.args.making.now.form in
    let w = c.loop-group.invariant.walked written h own in
    let groups = c.args.groups.now in
    let all = given_from_by enter written [] groups in
    let i = c.loop-group.group-index in
    let some : is_some c.in_ok-given.given ≡ true = search rules in
    let is = get_or_default groups i _ _ c.loop-group-test.true in
    let a = here enter all w.0 c.loop-group.txns.items c.give.new.txns.items c.loop-group.causes.items c.give.new.causes.items groups w.1 _ _ _ i _ c.loop-group-test.true is w.2 in
    let given = given_in _ _ _ _ _ _ _ _ _ _ c.loop-group.invariant.form (c.in_ok-given.ensures.given w.0 w.1 a.settled a.owned.0 w.2.walked.balance a.asked) in
    on_given enter all w.0 c.loop-group.txns.items c.give.new.txns.items c.loop-group.causes.items c.give.new.causes.items groups w.1 _ _ _ i _ c.loop-group-test.true is w.2 c.in_ok-given.given given some

pub returns-then-is_some-clause-back : goal.returns-then-is_some-clause-back
returns-then-is_some-clause-back c = kept_on _ _ _ _ _ _ _ _ _ c.loop-group.invariant.back c.in_ok-given.ensures.back

pub returns-then-is_some-2-clause-told : goal.returns-then-is_some-2-clause-told
returns-then-is_some-2-clause-told c = λ written h own.
    let enter = entering c.args.making.now.form in
    let w = c.loop-group.invariant.walked written h own in
    let groups = c.args.groups.now in
    let all = given_from_by enter written [] groups in
    let i = c.loop-group.group-index in
    let none : c.in_ok-given.given ≡ None = none-from c.in_ok-given.given (search rules) in
    let some : is_some c.in_ok-fault.fault ≡ true = search rules in
    let is = get_or_default groups i _ _ c.loop-group-test.true in
    let a = here enter all w.0 c.loop-group.txns.items c.give.new.txns.items c.loop-group.causes.items c.give.new.causes.items groups w.1 _ _ _ i _ c.loop-group-test.true is w.2 in
    let given = given_in _ _ _ _ _ _ _ _ _ _ c.loop-group.invariant.form (c.in_ok-given.ensures.given w.0 w.1 a.settled a.owned.0 w.2.walked.balance a.asked) in
    let ready = next_ready enter all w.0 c.loop-group.txns.items c.give.new.txns.items c.loop-group.causes.items c.give.new.causes.items w.1 _ _ _ _ a in
    let passed = c.in_ok-fault.ensures.passed _ (moved w.1) w.1 (given_settled _ _ _ _ _ _ _ _ _ _ _ none c.deref.ensures.value c.deref-in-loop-group.ensures.value given) ready w.2.walked.turnover refl w.2.walked.balance (given_asked _ _ _ _ _ _ _ _ _ _ none c.deref.ensures.value given) in
    on_stop enter all w.0 c.loop-group.txns.items c.give.new.txns.items c.loop-group.causes.items c.give.new.causes.items groups w.1 _ _ _ i _ c.loop-group-test.true is w.2 _ _ _ c.in_ok-fault.fault
    (on_passed enter all w.0 c.loop-group.txns.items c.give.new.txns.items c.loop-group.causes.items c.give.new.causes.items groups w.1 _ _ _ i _ c.loop-group-test.true is w.2 c.in_ok-given.given none given _ _ _ c.in_ok-fault.fault passed c.in_ok-fault.ensures.own c.in_ok-fault.ensures.below) some

pub returns-then-is_some-2-clause-back : goal.returns-then-is_some-2-clause-back
returns-then-is_some-2-clause-back c = kept_on _ _ _ _ _ _ _ _ _ c.loop-group.invariant.back c.in_ok-given.ensures.back

pub loop-group-preserved : goal.loop-group-preserved
loop-group-preserved c = record {
  walked = λ written h own.
      let enter = entering c.args.making.now.form in
      let w = c.loop-group.invariant.walked written h own in
      let groups = c.args.groups.now in
      let all = given_from_by enter written [] groups in
      let i = c.loop-group.group-index in
      let none : c.in_ok-given.given ≡ None = none-from c.in_ok-given.given (search rules) in
      let none_then : c.in_ok-fault.fault ≡ None = none-from c.in_ok-fault.fault (search rules) in
      let is = get_or_default groups i _ _ c.loop-group-test.true in
      let a = here enter all w.0 c.loop-group.txns.items c.give.new.txns.items c.loop-group.causes.items c.give.new.causes.items groups w.1 _ _ _ i _ c.loop-group-test.true is w.2 in
      let given = given_in _ _ _ _ _ _ _ _ _ _ c.loop-group.invariant.form (c.in_ok-given.ensures.given w.0 w.1 a.settled a.owned.0 w.2.walked.balance a.asked) in
      let ready = next_ready enter all w.0 c.loop-group.txns.items c.give.new.txns.items c.loop-group.causes.items c.give.new.causes.items w.1 _ _ _ _ a in
      let passed = c.in_ok-fault.ensures.passed _ (moved w.1) w.1 (given_settled _ _ _ _ _ _ _ _ _ _ _ none c.deref.ensures.value c.deref-in-loop-group.ensures.value given) ready w.2.walked.turnover refl w.2.walked.balance (given_asked _ _ _ _ _ _ _ _ _ _ none c.deref.ensures.value given) in (
        _,
        _,
        on_more enter all w.0 c.loop-group.txns.items c.give.new.txns.items c.loop-group.causes.items c.give.new.causes.items groups w.1 _ _ _ i _ c.loop-group-test.true is w.2 _ _ _ c.in_ok-fault.fault
            (on_passed enter all w.0 c.loop-group.txns.items c.give.new.txns.items c.loop-group.causes.items c.give.new.causes.items groups w.1 _ _ _ i _ c.loop-group-test.true is w.2 c.in_ok-given.given none given _ _ _ c.in_ok-fault.fault passed c.in_ok-fault.ensures.own c.in_ok-fault.ensures.below) none_then,
      );
  form = c.in_ok-given.ensures.form ∙ c.loop-group.invariant.form;
  back = kept_on _ _ _ _ _ _ _ _ _ c.loop-group.invariant.back c.in_ok-given.ensures.back;
}

pub returns-clause-told : goal.returns-clause-told
returns-clause-told c = λ written h own.
    let enter = entering c.args.making.now.form in
    let w = c.loop-group.invariant.walked written h own in
    let groups = c.args.groups.now in
    on_end enter (given_from_by enter written [] groups) w.0 c.loop-group.txns.items c.loop-group.causes.items groups _ w.1 _ _ _ (drop_past groups c.loop-group.group-index c.loop-group-test.false) w.2

pub returns-clause-back : goal.returns-clause-back
returns-clause-back c = c.loop-group.invariant.back
