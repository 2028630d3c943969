use Rattle.std.proofs.Common.{rules, Some, ap, refl}
use Rattle.turn_lock.specs.declared.known.Place.{Place}
use Rattle.turn_lock.proofs.Keeping.{gives_back, out_is, swapped}
use Rattle.turn_lock.proofs.steps.release.Goals as goal

pub exchange-place-requires : goal.exchange-place-requires
exchange-place-requires g c = (search rules, out_is _ _ _ (ap (λ m. m.1) c.requires.held.2))

pub fetch_add-requires : goal.fetch_add-requires
fetch_add-requires g c = let held = c.requires.held in let seat = c.exchange-place.new.seat in let board = c.args.board.now in (
  search rules,
  search rules,
  gives_back g.T.Kept.state g.T.Kept.leads board.key board.table_id.slots seat.id seat.me held.0 held.1 c.args.value c.args.entry (swapped c.args.seat.now.me seat.me held.0 _ _ held.2 c.exchange-place.ensures.3) held.3 held.4,
)

pub returns-clause-gave : goal.returns-clause-gave
returns-clause-gave g c = λ v is. let held = c.requires.held in let me = c.args.seat.now.me in
    let P : Type 0 = Place g.row.T.Denot g.row.T-Entry.Denot in
    let place : P = record { value = Some c.args.value; last = Some c.args.entry } in
    c.fetch_add.ensures.2 v place c.args.entry (swapped me c.exchange-place.new.seat.me v _ place (λ i. (is i, (held.2 i).1)) c.exchange-place.ensures.3) refl
