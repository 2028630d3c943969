use Rattle.std.proofs.Common.{◌≡◌, ◌∙◌, ◌++◌, ◌∷◌, []}
use Rattle.text_store.specs.Standing.{Stand}
use Rattle.text_store.specs.Stores.{disks}
use Rattle.text_store.proofs.Both.{less_said}
use Rattle.replica_laws.specs.Stored.{HaveRecords}
use Rattle.replica_laws.proofs.Kept.{feeds, if_ok}
use Rattle.replica_laws.proofs.Opened.{still_stands}
use Rattle.replica_laws.proofs.stores.feed_records.Goals as goal

pub returns-clause-fed : goal.returns-clause-fed
returns-clause-fed g c =
    if_ok c.feed.result c.feed.ensures.frames (λ bytes frames. λ records has. feeds c.args.store.now records has bytes (frames records.shown has.held))

pub returns-clause-stays : goal.returns-clause-stays
returns-clause-stays g c = λ records has. record {
  held = c.feed.ensures.held records.shown has.held;
  file = has.file;
  seen = c.feed.ensures.records ∙ has.seen;
  are = has.are;
}

pub returns-clause-any_moment : goal.returns-clause-any_moment
returns-clause-any_moment g c = λ records has tell.
    less_said g.D.Disk (disks c.args.store.now) (disks c.feed.new.self)
    (Stand c.args.store.now.in_second (λ file. file ≡ has.held.front ++ 0 ∷ []) (λ file. file ≡ has.held.beside)) (HaveRecords records)
    (still_stands c.args.store.now records has)
    (c.feed.ensures.left records.shown has.held tell)
