use Rattle.std.proofs.Common.{refl, ap, sym, ◌∙◌}
use Rattle.turn_lock.specs.Views.{known, given, is_over}
use Rattle.turn_lock.proofs.Standings.{holds_as, alive, live_as, carries_as, seat_as}
use Rattle.turn_lock.proofs.turn.Turn.give.Goals as goal

pub release-requires-clause-held : goal.release-requires-clause-held
release-requires-clause-held g c κs within = let held = c.requires.leads in
    holds_as c.pass.inside.seat c.pass.inside.live g.T.Kept.state g.T.Kept.leads c.args.pass.now c.pass.view_is c.pass.invariant held.0 c.args.held.value c.args.entry held.1 held.2

pub invariant_of-pass-inside : goal.invariant_of-pass-inside
invariant_of-pass-inside g c = let old = c.pass.inside in let v = known old.seat.me.0 old.live in
    (live_as c.release.new.seat.me (given v c.args.entry) _ (c.release.ensures.gave v (alive old.seat.me.0 old.live)), tt)

pub invariant_of-pass : goal.invariant_of-pass
invariant_of-pass g c = let old = c.pass.inside in let v = known old.seat.me.0 old.live in let p = c.args.pass.now in
    carries_as c.release.new.seat _ (given v c.args.entry) _ (c.release.ensures.gave v (alive old.seat.me.0 old.live)) refl
    (λ _ zero_is. c.release.ensures.board.1 ∙ seat_as old.seat old.live p c.pass.view_is c.pass.invariant (ap is_over c.requires.leads.1) (sym (ap (λ p. p.number) c.pass.view_is) ∙ zero_is))
