use Rattle.std.proofs.Common.{ℕ, sym, subst}
use Rattle.text_store.specs.Standing.{StandFor}
use Rattle.text_store.specs.Stores.{disks}
use Rattle.text_store.proofs.Both.{less_said}
use Rattle.replica_laws.specs.Stored.{HaveEither, Makes}
use Rattle.replica_laws.proofs.Kept.{both_err, both_ok, settled_has}
use Rattle.replica_laws.proofs.Opened.{part_half, part_number, part_stands}
use Rattle.replica_laws.proofs.stores.repair_records.Goals as goal

pub returns-clause-mended : goal.returns-clause-mended
returns-clause-mended g c =
    both_ok c.repair.result c.repair.ensures.mended c.repair.ensures.records (λ holds settles. λ before after has.
    settled_has c.repair.new.self before has.front has.entries (part_half c.args.store.now has.front has.entries before.shown has.task has.part) has.are
    (holds before.shown after.shown has.may) (settles has.front has.entries before.shown has.task has.part).rests.told)

pub returns-clause-torn : goal.returns-clause-torn
returns-clause-torn g c =
    both_err c.repair.result c.repair.ensures.fault c.repair.ensures.torn (λ fault torn. λ before after has.
    let part = torn has.front has.entries before.shown has.task has.part in
    record {
      task = has.task;
      front = has.front;
      entries = has.entries;
      part = part;
      may = fault before.shown after.shown has.may;
      makes = subst (λ (n : ℕ). Makes n before after has.task) (sym (part_number c.args.store.now c.repair.new.self has.front has.entries before.shown has.task has.part part)) has.makes;
      are = has.are;
    })

pub returns-clause-any_moment : goal.returns-clause-any_moment
returns-clause-any_moment g c = λ before after has tell.
    less_said g.D.Disk (disks c.args.store.now) (disks c.repair.new.self) (StandFor c.args.store.now.in_second has.front has.task) (HaveEither before after)
    (part_stands c.args.store.now before after has)
    (c.repair.ensures.left has.front has.entries before.shown has.task has.part tell)
