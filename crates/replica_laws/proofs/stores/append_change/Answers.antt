use Rattle.std.proofs.Common.{refl, sym, subst}
use Rattle.text_store.specs.Standing.{StandFor, put_of}
use Rattle.text_store.specs.Stores.{MayShow, disks}
use Rattle.text_store.proofs.Both.{less_said}
use Rattle.replica_laws.specs.Lives.{Records}
use Rattle.replica_laws.specs.Stored.{HasRecords, HaveEither}
use Rattle.replica_laws.proofs.Kept.{appended, both_ok, frames_here}
use Rattle.replica_laws.proofs.Opened.{stand}
use Rattle.replica_laws.proofs.stores.append_change.Goals as goal

pub returns-clause-accepted : goal.returns-clause-accepted
returns-clause-accepted g c =
    both_ok c.append.result c.append.ensures.acknowledged c.append.ensures.bytes (λ acknowledged bytes. λ before after has can becomes.
    subst (λ (r : Records). HasRecords c.append.new.self r) (sym becomes.2)
    (appended c.args.store.now before has c.append.new.self c.args.change.now becomes.0 can becomes.1
    (acknowledged before.shown becomes.0 has.held becomes.1) (bytes before.shown has.held)))

pub returns-clause-torn : goal.returns-clause-torn
returns-clause-torn g c = λ failed before after has can becomes. record {
  task = put_of c.args.change.now has.held.beside;
  front = has.held.front;
  entries = has.held.entries;
  part = c.append.ensures.torn failed before.shown has.held;
  may = subst (λ (r : Records). MayShow c.append.new.self before.shown r.shown) (sym becomes.2) (c.append.ensures.fault failed before.shown becomes.0 has.held becomes.1);
  makes = record { change = c.args.change.now; can = can; bytes = refl; becomes = becomes };
  are = frames_here c.args.store.now before has;
}

pub returns-clause-any_moment : goal.returns-clause-any_moment
returns-clause-any_moment g c = λ before after has can becomes tell.
    let old = c.args.store.now in
    less_said g.D.Disk (disks old) (disks c.append.new.self) (StandFor old.in_second has.held.front (put_of c.args.change.now has.held.beside)) (HaveEither before after)
    (stand has.held.front has.held.entries has.held.settled.is_half old.in_second old.generation before after (frames_here old before has) (put_of c.args.change.now has.held.beside)
    old.one_of_three has.held.leads (record { change = c.args.change.now; can = can; bytes = refl; becomes = becomes }))
    (c.append.ensures.left before.shown has.held tell)
