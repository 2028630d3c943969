use Rattle.std.proofs.Common.{Err, sym, subst}
use Rattle.store_text.specs.declared.refusal.StoreRefusal.{StoreRefusal}
use Rattle.store_making.specs.Making.{MakesDisks}
use Rattle.store_making.proofs.FileLaws.{made_disks, refused_disks}
use Rattle.store_making.proofs.making.make_disks.Goals as goal

pub returns-in-Ok : goal.returns-in-Ok
returns-in-Ok g c =
    let o = c.in-Ok.ensures in
    made_disks g.D.Disk (c.args.first, c.args.second) c.args.text.now c.args.limit tt c.in-Ok.store c.close-first.result c.close-first.ensures
    o.made o.bytes o.numbers o.any_moment o.keeps o.no_fault

pub returns-in-Err : goal.returns-in-Err
returns-in-Err g c =
    let o = c.in-Err.ensures in
    subst (λ (r : StoreRefusal). MakesDisks g.D.Disk (c.args.first, c.args.second) (c.in-Err.first, c.in-Err.second) c.args.text.now c.args.limit (Err r)) (sym c.unopened.ensures)
    (refused_disks g.D.Disk (c.args.first, c.args.second) c.args.text.now c.args.limit (c.in-Err.first, c.in-Err.second) c.in-Err.fault o.cause o.any_moment o.keeps)
