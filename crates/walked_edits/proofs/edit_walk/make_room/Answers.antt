use Rattle.std.proofs.Common.{length, take, refl, ap, ◌∙◌}
use Rattle.walked_edits.specs.Forms.{vacant}
use Rattle.walked_edits.proofs.Begins.{making_begins, making_more, making_smaller, room_made}
use Rattle.walked_edits.proofs.edit_walk.make_room.Goals as goal

pub loop-day-init : goal.loop-day-init
loop-day-init g c = making_begins c.args.edit.now.written c.args.book.now.items

pub loop-day-preserved : goal.loop-day-preserved
loop-day-preserved g c =
    making_more c.args.edit.now.written c.args.book.now.items c.loop-day.book.items c.hold_place.new.book.items c.in-Some.day (vacant c.in-Some.day) c.loop-day.invariant c.in-Some.ensures refl c.in_ok-hold_place.ensures.ok

pub loop-day-smaller : goal.loop-day-smaller
loop-day-smaller g c = making_smaller c.args.edit.now.written c.loop-day.book.items c.hold_place.new.book.items c.in-Some.day (vacant c.in-Some.day) c.in-Some.ensures c.in_ok-hold_place.ensures.ok

pub returns-clause-ok : goal.returns-clause-ok
returns-clause-ok g c = room_made c.args.edit.now.written c.args.book.now.items c.loop-day.book.items c.loop-day.invariant c.in_default.ensures

pub returns-clause-back : goal.returns-clause-back
returns-clause-back g c = c.loop-day.invariant.back

pub returns-in_err-hold_place-clause-back : goal.returns-in_err-hold_place-clause-back
returns-in_err-hold_place-clause-back g c = ap (take (length c.args.book.now.items)) c.in_err-hold_place.ensures.err ∙ c.loop-day.invariant.back
