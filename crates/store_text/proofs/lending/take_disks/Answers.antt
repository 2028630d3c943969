use Rattle.std.proofs.Common.{inl, sym, subst}
use Rattle.store_text.specs.Lending.{IsUntaken}
use Rattle.store_text.specs.declared.refusal.StoreRefusal.{StoreRefusal}
use Rattle.store_text.proofs.LendingLaws.{untaken_by, with_first}
use Rattle.store_text.proofs.lending.take_disks.Goals as goal

pub returns-in-Ok : goal.returns-in-Ok
returns-in-Ok g c =
    let e = c.in-Ok.ensures in
    let s = g.S.Shelf in
    let d = g.S.Disk.Disk in
    with_first s d c.args.make c.args.name.now c.args.beside.now c.args.shelf.now c.take.new.self c.take_second.new.shelf c.in-Ok.first
    (record {
      reads = e.taken;
      rests = e.rest;
      telling = e.crashes;
      unfailing = e.unfailing;
      moment = e.moment;
      reach = e.reach;
      no_faults = e.no_faults;
      place = e.place;
      keeps = e.keeps;
      tells = e.tells;
      faults = e.blame.same (λ h. cc);
      last_failed = e.blame.same_name (λ h. cc);
      disk_faults = e.disk_faults;
      sound = λ h. (e.sound h).1;
    })
    c.take_second.result c.take_second.ensures

pub returns-in-Err : goal.returns-in-Err
returns-in-Err g c =
    let e = c.in-Err.ensures in
    let s = g.S.Shelf in
    let d = g.S.Disk.Disk in
    record {
      way = inl (subst (λ (r : StoreRefusal). IsUntaken s d c.args.make c.args.name.now c.args.shelf.now c.take.new.self r) (sym c.untaken.ensures)
          (untaken_by s d c.args.make c.args.name.now c.args.shelf.now c.take.new.self c.in-Err.fault e.taken e.never_long e.blame e.keeps e.tells e.disk_faults e.sound));
    }
