use Rattle.std.proofs.Common.{refl}
use Rattle.reached_walk.proofs.Handing.{handed}
use Rattle.reached_walk.proofs.walking.Reach.reach.Goals as goal

pub returns-clause-handed : goal.returns-clause-handed
returns-clause-handed c = λ edit answered w got h.
    handed edit answered c.args.watchers.now w c.args.spot c.args.txn.now got c.in_ok-note_txn.ensures.plain c.args.self.now
    (record { edited = c.args.self.now.edited; at = c.args.self.now.at; changes = c.note_txn.new.changes }) refl c.in_ok-note_txn.ensures.noted h
