use Rattle.std.proofs.Common.{inr, ap, sym, ◌∙◌}
use Rattle.live_journal.specs.Journals.{Planned}
use Rattle.desk.specs.Desks.{state_of}
use Rattle.desk.proofs.DryEdits.{room_left, same_left}
use Rattle.desk.proofs.desk.Desk.unstored.Goals as goal

pub returns-then-same : goal.returns-then-same
returns-then-same g c =
    let same = sym (ap (λ (p : Planned). p.same) c.requires) ∙ sym (c.same-same.ensures ∙ ap (λ (p : Planned). p.same) c.get.ensures) ∙ c.if-same.true in
    inr (rw c.revision-revision.ensures (same_left (state_of c.args.self.now) c.args.deed.now same))

pub returns : goal.returns
returns g c =
    let differs = sym (ap (λ (p : Planned). p.same) c.requires) ∙ sym (c.same-same.ensures ∙ ap (λ (p : Planned). p.same) c.get.ensures) ∙ c.if-same.false in
    room_left (state_of c.args.self.now) c.args.deed.now c.without_room.result differs c.without_room.ensures

pub without_room-requires-clause-change : goal.without_room-requires-clause-change
without_room-requires-clause-change g c =
    c.make_ready-ready.ensures.change c.args.self.now.live.text (c.splice.ensures ∙ ap (λ (p : Planned). p.splice) (c.get-2.ensures ∙ c.requires))

pub without_room-requires-clause-states : goal.without_room-requires-clause-states
without_room-requires-clause-states g c = c.make_ready-ready.ensures.states
