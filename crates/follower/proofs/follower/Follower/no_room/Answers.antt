use Rattle.std.proofs.Common.{◌≡◌, ◌∙◌, ◌+◌, ◌-◌, ◌^◌, ◌<◌, ◌≤◌, min, true, sym, arith}
use Rattle.text_store.specs.declared.fault.StoreFault.TheVariants.{Full}
use Rattle.text_store.specs.Edits.{whole_size}
use Rattle.text_store.specs.Stores.{limit_of, size_of}
use Rattle.follower.specs.Keeping.{due_at, room_size}
use Rattle.follower.proofs.Rooms.{due_room, not_due_fits, not_past}
use Rattle.follower.proofs.follower.Follower.no_room.Goals as goal

pub returns-then-not-is_due : goal.returns-then-not-is_due
returns-then-not-is_due g c =
    let store = c.args.self.now.store in
    not_due_fits (size_of store) (limit_of store) c.args.size (whole_size c.args.self.now.image) (sym c.is_due.ensures ∙ c.if-not-is_due.true)

pub returns-then-is_past : goal.returns-then-is_past
returns-then-is_past g c =
    let store = c.args.self.now.store in
    let whole = whole_size c.args.self.now.image in
    let due : due_at (size_of store) (limit_of store) c.args.size whole ≡ true = sym c.is_due.ensures ∙ c.if-not-is_due.false in
    let room : room_size (size_of store) (limit_of store) c.args.size whole ≡ whole = due_room (size_of store) (limit_of store) c.args.size whole due in
    let past : c.limit-limit.result < c.size-whole.result + c.args.size = c.is_past.ensures.0 c.if-is_past.true in
    let told : c.saturating_add-size.result ≡ min (room_size (size_of store) (limit_of store) c.args.size whole + c.args.size) (2 ^ 64 - 1) = omega (arith, room, c.size-whole.ensures, c.saturating_add-size.ensures) in
    (omega (arith, room, past, c.size-whole.ensures, c.limit-limit.ensures), λ i. Full (told i) (c.limit-limit.ensures i))

pub returns : goal.returns
returns g c =
    let store = c.args.self.now.store in
    let whole = whole_size c.args.self.now.image in
    let due : due_at (size_of store) (limit_of store) c.args.size whole ≡ true = sym c.is_due.ensures ∙ c.if-not-is_due.false in
    let room : room_size (size_of store) (limit_of store) c.args.size whole ≡ whole = due_room (size_of store) (limit_of store) c.args.size whole due in
    let within : c.size-whole.result + c.args.size ≤ c.limit-limit.result = not_past c.limit-limit.result (c.size-whole.result + c.args.size) c.is_past.result c.if-is_past.false c.is_past.ensures.1 in
    omega (arith, room, within, c.size-whole.ensures, c.limit-limit.ensures, c.requires)
