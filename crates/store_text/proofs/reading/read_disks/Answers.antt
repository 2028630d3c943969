use Rattle.store_text.proofs.OpeningLaws.{opened_reads, refused_reads}
use Rattle.store_text.specs.Reading.{ReadsDisks}
use Rattle.store_text.specs.declared.refusal.StoreRefusal.{StoreRefusal}
use Rattle.std.proofs.Common.{Err, sym, subst}
use Rattle.store_text.proofs.reading.read_disks.Goals as goal

pub returns-in-Ok : goal.returns-in-Ok
returns-in-Ok g c =
    let o = c.in-Ok.ensures in
    opened_reads g.D.Disk (c.args.first, c.args.second) c.in-Ok.store c.in-Ok.image c.close-first.result c.close-first.ensures o.opened o.any_moment o.keeps o.no_fault

pub returns-in-Err : goal.returns-in-Err
returns-in-Err g c =
    let o = c.in-Err.ensures in
    subst (λ (r : StoreRefusal). ReadsDisks g.D.Disk (c.args.first, c.args.second) (c.in-Err.first, c.in-Err.second) (Err r)) (sym c.unopened.ensures)
    (refused_reads g.D.Disk (c.args.first, c.args.second) (c.in-Err.first, c.in-Err.second) c.in-Err.fault o.cause o.stays o.any_moment o.keeps)
