use Rattle.std.proofs.Common.{rules, ap, ◌∙◌}
use Rattle.turn_lock.specs.Views.{known}
use Rattle.turn_lock.proofs.Standings.{alive, idle_as}
use Rattle.turn_lock.proofs.Keeping.{joins_other}
use Rattle.turn_lock.proofs.turn.Turn.join.Goals as goal

pub join_seat-requires : goal.join_seat-requires
join_seat-requires g c = let seat = c.pass.inside.seat in let live = c.pass.inside.live in let seat' = c.other.inside.seat in let live' = c.other.inside.live in (
  search rules,
  search rules,
  ap (λ m. m.1) (idle_as seat' live' c.args.other c.other.view_is c.other.invariant c.requires.other.1).1,
  search rules,
  joins_other g.T.Kept.state g.T.Kept.leads c.self.inside.table.shared.key seat.id seat.me.0 (known seat.me.0 live) seat'.id seat'.me.0 (known seat'.me.0 live') (alive seat.me.0 live) (alive seat'.me.0 live')
      (ap (λ p. p.hold) c.pass.view_is ∙ c.requires.first.1) (ap (λ p. p.hold) c.other.view_is ∙ c.requires.other.1) (ap (λ p. p.number) c.pass.view_is ∙ c.requires.first.2),
)
