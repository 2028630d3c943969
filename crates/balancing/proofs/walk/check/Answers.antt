use Rattle.std.proofs.Common.{List, Option, Ok, sym, ap, ◌∙◌, subst}
use Rattle.book.specs.declared.transaction.Txn.{Txn}
use Rattle.book.specs.Bounds.{TurnoverFits}
use Rattle.book.specs.Postings.{postings_of, txns_of}
use Rattle.book.specs.declared.fault.Fault.{Fault}
use Rattle.book.specs.declared.fault.Cause.{Cause}
use Rattle.entry_balance.specs.Settled.{AreSettled}
use Rattle.balancing.specs.Assigned.{shortened}
use Rattle.balancing.specs.declared.written.Written.{Written}
use Rattle.balancing.specs.Back.{txns_back, causes_back}
use Rattle.balancing.specs.Check.{cause_in}
use Rattle.balancing.specs.Wanting.{any_wanted}
use Rattle.balancing.specs.Load.{load}
use Rattle.balancing.specs.Solves.{HaveFew}
use Rattle.balancing.proofs.Telling.{AnyWritten, told_answer, told_if}
use Rattle.balancing.proofs.Solving.{load_solves, solves_loads, still_book}
use Rattle.balancing.proofs.Whole.{groups_noted}
use Rattle.balancing.proofs.Told.{one_book, told_of, told_ok, told_fits, told_few, told_fault}
use Rattle.balancing.proofs.walk.check.Goals as goal

pub returns-in-Ok-None-clause-answer : goal.returns-in-Ok-None-clause-answer
returns-in-Ok-None-clause-answer c =
    let written = txns_of c.args.items in
    let e = c.in-Ok.entries in
    let ordered = c.in-Ok-in_order.groups.items in
    let noted = groups_noted written e.txns.items e.causes.items e.groups.items ordered c.in-Ok.ensures.read c.in-Ok-in_order.ensures in
    let ts = c.first_fault.new.txns.items in
    let cs = c.first_fault.new.causes.items in
    let told = told_of shortened written e.txns.items e.causes.items ordered c.in-Ok.ensures.read.settled noted ts cs c.deref.result.now c.in-Ok-None.field-0 c.deref.ensures.value c.in-Ok-None.ensures.told in
    still_book _ _ _ (told_ok shortened written ts cs c.in-Ok-None.field-0 c.in-Ok-None.field-0-is told ∙ ap (λ (xs : List Txn). Ok (record { txns = xs })) (sym c.from_vec.ensures))

pub returns-in-Ok-None-clause-fits : goal.returns-in-Ok-None-clause-fits
returns-in-Ok-None-clause-fits c =
    let written = txns_of c.args.items in
    let e = c.in-Ok.entries in
    let ordered = c.in-Ok-in_order.groups.items in
    let noted = groups_noted written e.txns.items e.causes.items e.groups.items ordered c.in-Ok.ensures.read c.in-Ok-in_order.ensures in
    let ts = c.first_fault.new.txns.items in
    let cs = c.first_fault.new.causes.items in
    let told = told_of shortened written e.txns.items e.causes.items ordered c.in-Ok.ensures.read.settled noted ts cs c.deref.result.now c.in-Ok-None.field-0 c.deref.ensures.value c.in-Ok-None.ensures.told in
    subst (λ (xs : List Txn). TurnoverFits (postings_of xs)) (sym c.from_vec.ensures) (told_fits shortened written ts cs c.in-Ok-None.field-0 c.in-Ok-None.field-0-is told)

pub returns-in-Ok-None-clause-few : goal.returns-in-Ok-None-clause-few
returns-in-Ok-None-clause-few c =
    let written = txns_of c.args.items in
    let e = c.in-Ok.entries in
    let ordered = c.in-Ok-in_order.groups.items in
    let noted = groups_noted written e.txns.items e.causes.items e.groups.items ordered c.in-Ok.ensures.read c.in-Ok-in_order.ensures in
    let ts = c.first_fault.new.txns.items in
    let cs = c.first_fault.new.causes.items in
    let told = told_of shortened written e.txns.items e.causes.items ordered c.in-Ok.ensures.read.settled noted ts cs c.deref.result.now c.in-Ok-None.field-0 c.deref.ensures.value c.in-Ok-None.ensures.told in
    subst HaveFew (sym c.from_vec.ensures) (told_few shortened written ts cs c.in-Ok-None.field-0 c.in-Ok-None.field-0-is told)

pub returns-in-Ok-Some-clause-answer : goal.returns-in-Ok-Some-clause-answer
returns-in-Ok-Some-clause-answer c =
    let written = txns_of c.args.items in
    let e = c.in-Ok.entries in
    let ordered = c.in-Ok-in_order.groups.items in
    let noted = groups_noted written e.txns.items e.causes.items e.groups.items ordered c.in-Ok.ensures.read c.in-Ok-in_order.ensures in
    let ts = c.first_fault.new.txns.items in
    let cs = c.first_fault.new.causes.items in
    let own = told_fault shortened written ts cs c.in-Ok-Some.fault c.in-Ok-Some.field-0 c.in-Ok-Some.field-0-is
    (told_of shortened written e.txns.items e.causes.items ordered c.in-Ok.ensures.read.settled noted ts cs c.deref.result.now c.in-Ok-Some.field-0 c.deref.ensures.value c.in-Ok-Some.ensures.told) in
    let kept = c.first_fault.new.making.kept.items in
    let back = subst (λ (x : List Txn × List (Option Cause)). AreSettled written x.0 x.1) (λ i. (sym (c.in-Ok-Some.ensures.back.txns_stay ∙ ap (λ (ws : List Written). txns_back ws e.txns.items) c.new-kept.ensures.items) i, sym (c.in-Ok-Some.ensures.back.causes_stay ∙ ap (λ (ws : List Written). causes_back ws e.causes.items) c.new-kept.ensures.items) i)) c.in-Ok.ensures.read.settled in
    told_answer c.args.items c.in-Ok-Some.fault own (cause_in c.told.result) (λ (f : Fault). AnyWritten ts cs kept ordered c.in-Ok-Some.fault f) (λ f is. is written back noted) c.told.ensures

pub returns-in-Ok-None-clause-solves : goal.returns-in-Ok-None-clause-solves
returns-in-Ok-None-clause-solves c =
    let written = txns_of c.args.items in
    let e = c.in-Ok.entries in
    let ordered = c.in-Ok-in_order.groups.items in
    let noted = groups_noted written e.txns.items e.causes.items e.groups.items ordered c.in-Ok.ensures.read c.in-Ok-in_order.ensures in
    let ts = c.first_fault.new.txns.items in
    let cs = c.first_fault.new.causes.items in
    let told = told_of shortened written e.txns.items e.causes.items ordered c.in-Ok.ensures.read.settled noted ts cs c.deref.result.now c.in-Ok-None.field-0 c.deref.ensures.value c.in-Ok-None.ensures.told in
    let is = still_book _ _ _ (told_ok shortened written ts cs c.in-Ok-None.field-0 c.in-Ok-None.field-0-is told ∙ ap (λ (xs : List Txn). Ok (record { txns = xs })) (sym c.from_vec.ensures)) in
    record {
      solves = λ unmarked. load_solves c.args.items (record { txns = c.from_vec.result }) unmarked is;
      only = λ other solved. one_book (load c.args.items) other c.from_vec.result (solves_loads c.args.items (record { txns = other }) solved) is;
    }

pub returns-in-Ok-Some-clause-fault : goal.returns-in-Ok-Some-clause-fault
returns-in-Ok-Some-clause-fault c = λ unmarked.
    let written = txns_of c.args.items in
    let e = c.in-Ok.entries in
    let ordered = c.in-Ok-in_order.groups.items in
    let noted = groups_noted written e.txns.items e.causes.items e.groups.items ordered c.in-Ok.ensures.read c.in-Ok-in_order.ensures in
    let ts = c.first_fault.new.txns.items in
    let cs = c.first_fault.new.causes.items in
    let own = told_fault shortened written ts cs c.in-Ok-Some.fault c.in-Ok-Some.field-0 c.in-Ok-Some.field-0-is
    (told_of shortened written e.txns.items e.causes.items ordered c.in-Ok.ensures.read.settled noted ts cs c.deref.result.now c.in-Ok-Some.field-0 c.deref.ensures.value c.in-Ok-Some.ensures.told) in
    let kept = c.first_fault.new.making.kept.items in
    let back = subst (λ (x : List Txn × List (Option Cause)). AreSettled written x.0 x.1) (λ i. (sym (c.in-Ok-Some.ensures.back.txns_stay ∙ ap (λ (ws : List Written). txns_back ws e.txns.items) c.new-kept.ensures.items) i, sym (c.in-Ok-Some.ensures.back.causes_stay ∙ ap (λ (ws : List Written). causes_back ws e.causes.items) c.new-kept.ensures.items) i)) c.in-Ok.ensures.read.settled in
    told_if c.args.items c.in-Ok-Some.fault own unmarked (cause_in c.told.result) (λ (f : Fault). AnyWritten ts cs kept ordered c.in-Ok-Some.fault f) (λ f is. is written back noted) c.told.ensures

pub first_fault-requires : goal.first_fault-requires
first_fault-requires c = λ none. sym c.in-Ok.ensures.asks ∙ none

pub told-requires : goal.told-requires
told-requires c = λ none.
    ap any_wanted (c.in-Ok-Some.ensures.back.txns_stay ∙ ap (λ (ws : List Written). txns_back ws c.in-Ok.entries.txns.items) c.new-kept.ensures.items) ∙ sym c.in-Ok.ensures.asks ∙ none
