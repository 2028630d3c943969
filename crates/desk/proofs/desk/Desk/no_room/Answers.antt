use Rattle.std.proofs.Common.{◌≡◌, ◌-◌, ◌^◌, ◌<◌, min, sym, ◌∙◌, arith}
use Rattle.text_store.specs.Edits.{whole_size}
use Rattle.desk.specs.Desks.{shown_by, state_of}
use Rattle.desk.proofs.Rooms.{no_room_by, room_by}
use Rattle.desk.proofs.desk.Desk.no_room.Goals as goal

pub returns-then-is_past : goal.returns-then-is_past
returns-then-is_past g c =
    let desk = c.args.self.now in
    let told : c.size_of_parts-whole.result ≡ min (whole_size (shown_by desk)) (2 ^ 64 - 1) =
    rw (← c.text.ensures.text, ← c.as_slice.ensures) (c.size_of_parts-whole.ensures desk.live.revision) in
    let few : (state_of desk).limit < 2 ^ 64 = rw (← c.limit-limit.ensures) (omega arith) in
    let past = sym c.is_past.ensures ∙ c.if-is_past.true in
    rw c.limit-limit.ensures (no_room_by (state_of desk) c.args.size c.size_of_parts-whole.result c.saturating_add-size.result (sym c.is_due.ensures ∙ c.if-not-is_due.false) few c.requires told (rw c.limit-limit.ensures at past) c.saturating_add-size.ensures)

pub returns-else-is_past : goal.returns-else-is_past
returns-else-is_past g c =
    let desk = c.args.self.now in
    let told : c.size_of_parts-whole.result ≡ min (whole_size (shown_by desk)) (2 ^ 64 - 1) =
    rw (← c.text.ensures.text, ← c.as_slice.ensures) (c.size_of_parts-whole.ensures desk.live.revision) in
    let few : (state_of desk).limit < 2 ^ 64 = rw (← c.limit-limit.ensures) (omega arith) in
    let past = sym c.is_past.ensures ∙ c.if-is_past.false in
    room_by (state_of desk) c.args.size c.size_of_parts-whole.result (sym c.is_due.ensures ∙ c.if-not-is_due.false) few c.requires told (rw c.limit-limit.ensures at past)
