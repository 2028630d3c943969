use Rattle.std.proofs.Common.{refl}
use Rattle.reached_walk.specs.declared.place.Spot.{Spot}
use Rattle.reached_walk.proofs.Handing.{begun-left}
use Rattle.reached_walk.proofs.walking.Reach.leave.Goals as goal

pub returns-clause-told : goal.returns-clause-told
returns-clause-told c = λ edit spots told watched others own was h.
    let place : Spot = record { day = c.args.old.now.day; number = c.args.spot.number } in
    begun-left edit spots told c.args.watchers.now watched others c.args.old.now c.in_ok-note_txn.ensures.plain c.args.spot place refl refl own was
    c.args.self.now (record { edited = c.args.self.now.edited; at = c.args.self.now.at; changes = c.note_txn.new.changes }) refl c.in_ok-note_txn.ensures.noted h
