use Rattle.std.proofs.Common.{Err, sym, subst}
use Rattle.store_feeding.proofs.FedDisks.{opened_fed, refused_fed}
use Rattle.store_feeding.specs.Feeding.{FeedsDisks}
use Rattle.store_text.specs.declared.refusal.StoreRefusal.{StoreRefusal}
use Rattle.store_feeding.proofs.feeding.feed_disks.Goals as goal

pub returns-in-Ok : goal.returns-in-Ok
returns-in-Ok g c =
    let o = c.in-Ok.ensures in
    opened_fed g.D.Disk (c.args.first, c.args.second) c.in-Ok.store _ o.opened o.size o.in_use o.any_moment o.keeps o.no_fault
    (c.feed_open.result.0, c.feed_open.result.1) c.feed_open.result.2 c.feed_open.ensures

pub returns-in-Err : goal.returns-in-Err
returns-in-Err g c =
    let o = c.in-Err.ensures in
    subst (λ (r : StoreRefusal). FeedsDisks g.D.Disk (c.args.first, c.args.second) (c.in-Err.first, c.in-Err.second) (Err r)) (sym c.unopened.ensures)
    (refused_fed g.D.Disk (c.args.first, c.args.second) (c.in-Err.first, c.in-Err.second) c.in-Err.fault o.cause o.stays o.any_moment o.keeps)
