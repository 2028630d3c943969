use Rattle.std.proofs.Common.{rules, ap, ◌∙◌}
use Rattle.turn_lock.specs.Views.{known}
use Rattle.turn_lock.proofs.Standings.{alive}
use Rattle.turn_lock.proofs.Keeping.{closes_first}
use Rattle.turn_lock.proofs.Ending.{has_value, led, whole}
use Rattle.turn_lock.proofs.turn.Turn.close.Goals as goal

pub split_seat-kept-requires : goal.split_seat-kept-requires
split_seat-kept-requires g c = let seat = c.pass.inside.seat in let live = c.pass.inside.live in (
  search rules,
  search rules,
  closes_first g.T.Kept.state g.T.Kept.leads c.self.inside.table.shared.key seat.id seat.me.0 (known seat.me.0 live) (alive seat.me.0 live) (ap (λ p. p.hold) c.pass.view_is ∙ c.requires.first.1) (ap (λ p. p.number) c.pass.view_is ∙ c.requires.first.2),
)

pub into_value-requires : goal.into_value-requires
into_value-requires g c = let split = c.split_seat-kept.ensures in
    has_value g.T.Kept.state g.T.Kept.leads c.self.inside.table.shared.key c.pass.inside.seat c.pass.inside.live c.args.pass c.pass.view_is c.pass.invariant c.requires.first.1 c.requires.first.2 c.requires.all
    c.split_seat-kept.new.seat split.1 (ap (λ m. m.0) split.2) _ _ c.close_with-closed.ensures.values.2 c.take-place.result c.take-place.ensures.value

pub returns-clause-led : goal.returns-clause-led
returns-clause-led g c = let split = c.split_seat-kept.ensures in
    led g.T.Kept.state g.T.Kept.leads c.self.inside.table.shared.key c.pass.inside.seat c.pass.inside.live c.args.pass c.pass.view_is c.pass.invariant c.requires.first.1 c.requires.first.2 c.requires.all
    c.split_seat-kept.new.seat split.1 (ap (λ m. m.0) split.2) _ _ c.close_with-closed.ensures.values.2 c.take-place.result c.take-place.ensures.value
    c.split_seat-kept.result _ (ap (λ m. m.0) split.4) c.args.self.opening c.into_value.result (ap (λ l. l.opening) c.self.view_is) c.into_value.ensures

pub returns-clause-whole : goal.returns-clause-whole
returns-clause-whole g c = let split = c.split_seat-kept.ensures in
    whole g.T.Kept.state g.T.Kept.leads c.self.inside.table.shared.key c.pass.inside.seat c.pass.inside.live c.args.pass c.pass.view_is c.pass.invariant c.requires.first.1 c.requires.first.2 c.requires.all
    c.split_seat-kept.new.seat split.1 (ap (λ m. m.0) split.2) _ _ c.close_with-closed.ensures.values.2 c.take-place.result c.take-place.ensures.value
    c.split_seat-kept.result _ (ap (λ m. m.0) split.4)
