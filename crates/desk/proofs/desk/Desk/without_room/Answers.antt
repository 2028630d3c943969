use Rattle.std.proofs.Common.{◌<◌, ◌^◌, inl, inr, refl, ◌∙◌, arith}
use Rattle.desk.specs.Desks.{state_of}
use Rattle.desk.specs.States.{change_of, states_with}
use Rattle.desk.proofs.Rooms.{room_told}
use Rattle.desk.proofs.desk.Desk.without_room.Goals as goal

pub returns-in-Ok : goal.returns-in-Ok
returns-in-Ok g c =
    let desk = c.args.self.now in
    let s = state_of desk in
    let d = c.args.deed.now in
    let some : 0 < s.size = omega arith in
    let few : s.limit < 2 ^ 64 = omega arith in
    inr (c.unready.ensures ∙ room_told s d.mark c.in-Ok.ready.states (states_with d.mark desk.latest) c.in-Ok.ready.change (change_of desk.live.text d) some few
    (rw c.in-Ok.is at c.requires.change) (rw c.in-Ok.is at c.requires.states))

pub returns-in-Err : goal.returns-in-Err
returns-in-Err g c = inl refl
