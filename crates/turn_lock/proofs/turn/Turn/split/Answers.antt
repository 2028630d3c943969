use Rattle.std.proofs.Common.{rules, ap, ◌∙◌}
use Rattle.turn_lock.specs.Views.{known}
use Rattle.turn_lock.proofs.Standings.{alive}
use Rattle.turn_lock.proofs.Keeping.{splits}
use Rattle.turn_lock.proofs.turn.Turn.split.Goals as goal

pub split_seat-seat-requires : goal.split_seat-seat-requires
split_seat-seat-requires g c = let seat = c.pass.inside.seat in let live = c.pass.inside.live in (
  search rules,
  search rules,
  splits g.T.Kept.state g.T.Kept.leads c.self.inside.table.shared.key seat.id seat.me.0 (known seat.me.0 live) (alive seat.me.0 live) (ap (λ p. p.hold) c.pass.view_is ∙ c.requires.1) (ap (λ p. p.number) c.pass.view_is ∙ c.requires.2),
)
