use Rattle.std.proofs.Common.{List, Option, true, sym, ap, ◌∙◌, subst}
use Rattle.book.specs.declared.fault.Cause.{Cause}
use Rattle.book.specs.declared.transaction.Txn.{Txn}
use Rattle.entry_balance.specs.Settled.{AreSettled}
use Rattle.balancing.specs.Assigned.{whole}
use Rattle.balancing.specs.Load.{told_if}
use Rattle.balancing.specs.Wanting.{any_wanted}
use Rattle.balancing.proofs.Told.{told_of, told_ok, told_fault}
use Rattle.balancing.proofs.walk.told_whole.Goals as goal

pub first_fault-requires : goal.first_fault-requires
first_fault-requires c = λ none. ap any_wanted c.put_back.ensures.txns ∙ c.requires none

pub returns-in-Ok-Some : goal.returns-in-Ok-Some
returns-in-Ok-Some c = λ written settled order.
    let back = subst (λ (x : List Txn × List (Option Cause)). AreSettled written x.0 x.1) (λ i. (sym c.put_back.ensures.txns i, sym c.put_back.ensures.causes i)) settled in
    let ts = c.first_fault.new.txns.items in
    let cs = c.first_fault.new.causes.items in
    let is = told_of whole written c.put_back.new.txns.items c.put_back.new.causes.items c.args.entries.groups.items back order ts cs c.deref.result.now c.in-Ok-Some.field-0 c.deref.ensures.value c.in-Ok-Some.ensures.told in
    ap (told_if true c.args.fault) (sym (told_fault whole written ts cs c.in-Ok-Some.told c.in-Ok-Some.field-0 c.in-Ok-Some.field-0-is is))

pub returns-in-Ok-None : goal.returns-in-Ok-None
returns-in-Ok-None c = λ written settled order.
    let back = subst (λ (x : List Txn × List (Option Cause)). AreSettled written x.0 x.1) (λ i. (sym c.put_back.ensures.txns i, sym c.put_back.ensures.causes i)) settled in
    let ts = c.first_fault.new.txns.items in
    let cs = c.first_fault.new.causes.items in
    let is = told_of whole written c.put_back.new.txns.items c.put_back.new.causes.items c.args.entries.groups.items back order ts cs c.deref.result.now c.in-Ok-None.field-0 c.deref.ensures.value c.in-Ok-None.ensures.told in
    ap (told_if true c.args.fault) (sym (told_ok whole written ts cs c.in-Ok-None.field-0 c.in-Ok-None.field-0-is is))
