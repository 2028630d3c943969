use Rattle.std.proofs.Common.{◌+◌, List, vec_capacity, refl, subst, ◌∙◌}
use Rattle.book.specs.declared.item.Placed.{Placed}
use Rattle.changed_texts.specs.OneEntry.{IsSpread}
use Rattle.changed_texts.proofs.Joints.{after_fits, ahead_fits, all_met, m_still, n_still, room_is}
use Rattle.changed_texts.proofs.beside.put_met.Goals as goal

pub in_room-all-requires : goal.in_room-all-requires
in_room-all-requires c =
    let met = c.args.met in
    let put = c.spread_items-put.result in
    room_is c.args.number (c.args.number + 1) c.args.items.now put.items.items met put.ahead put.after c.requires.number c.requires.met refl
    (subst (λ (xs : List Placed). IsSpread c.args.number xs met.by met.before met.placed met.behind put.items.items put.ahead put.after) c.replace-old.ensures.value c.spread_items-put.ensures)

pub insert_at-requires-clause-number : goal.insert_at-requires-clause-number
insert_at-requires-clause-number c =
    let met = c.args.met in
    let put = c.spread_items-put.result in
    m_still c.args.number (c.args.number + 1) c.args.items.now put.items.items met put.ahead put.after c.requires.number c.requires.met refl
    (subst (λ (xs : List Placed). IsSpread c.args.number xs met.by met.before met.placed met.behind put.items.items put.ahead put.after) c.replace-old.ensures.value c.spread_items-put.ensures)
    c.in_room-all.result.items (vec_capacity c.in_room-all.result) c.in_room-all.ensures.items c.in_room-all.ensures.room

pub insert_at-requires-clause-room : goal.insert_at-requires-clause-room
insert_at-requires-clause-room c =
    let met = c.args.met in
    let put = c.spread_items-put.result in
    after_fits c.args.number (c.args.number + 1) c.args.items.now put.items.items met put.ahead put.after c.requires.number c.requires.met refl
    (subst (λ (xs : List Placed). IsSpread c.args.number xs met.by met.before met.placed met.behind put.items.items put.ahead put.after) c.replace-old.ensures.value c.spread_items-put.ensures)
    c.in_room-all.result.items (vec_capacity c.in_room-all.result) c.in_room-all.ensures.items c.in_room-all.ensures.room

pub insert_at-requires-2-clause-number : goal.insert_at-requires-2-clause-number
insert_at-requires-2-clause-number c =
    let met = c.args.met in
    let put = c.spread_items-put.result in
    n_still c.args.number (c.args.number + 1) c.args.items.now put.items.items met put.ahead put.after c.requires.number c.requires.met refl
    (subst (λ (xs : List Placed). IsSpread c.args.number xs met.by met.before met.placed met.behind put.items.items put.ahead put.after) c.replace-old.ensures.value c.spread_items-put.ensures)
    c.in_room-all.result.items (vec_capacity c.in_room-all.result) c.in_room-all.ensures.items c.in_room-all.ensures.room
    c.insert_at.new.items.items (vec_capacity c.insert_at.new.items) c.insert_at.ensures.items c.insert_at.ensures.capacity

pub insert_at-requires-2-clause-room : goal.insert_at-requires-2-clause-room
insert_at-requires-2-clause-room c =
    let met = c.args.met in
    let put = c.spread_items-put.result in
    ahead_fits c.args.number (c.args.number + 1) c.args.items.now put.items.items met put.ahead put.after c.requires.number c.requires.met refl
    (subst (λ (xs : List Placed). IsSpread c.args.number xs met.by met.before met.placed met.behind put.items.items put.ahead put.after) c.replace-old.ensures.value c.spread_items-put.ensures)
    c.in_room-all.result.items (vec_capacity c.in_room-all.result) c.in_room-all.ensures.items c.in_room-all.ensures.room
    c.insert_at.new.items.items (vec_capacity c.insert_at.new.items) c.insert_at.ensures.items c.insert_at.ensures.capacity

pub returns : goal.returns
returns c =
    let met = c.args.met in
    let put = c.spread_items-put.result in
    c.from_vec.ensures
    ∙ all_met c.args.number (c.args.number + 1) c.args.items.now put.items.items met put.ahead put.after c.requires.number c.requires.met refl
    (subst (λ (xs : List Placed). IsSpread c.args.number xs met.by met.before met.placed met.behind put.items.items put.ahead put.after) c.replace-old.ensures.value c.spread_items-put.ensures)
    c.in_room-all.result.items (vec_capacity c.in_room-all.result) c.in_room-all.ensures.items c.in_room-all.ensures.room
    c.insert_at.new.items.items (vec_capacity c.insert_at.new.items) c.insert_at.ensures.items c.insert_at.ensures.capacity
    c.insert_at-2.new.items.items c.insert_at-2.ensures.items
