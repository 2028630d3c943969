use Rattle.std.proofs.Common.{refl, sym, subst}
use Rattle.store_text.specs.Lending.{IsUntaken}
use Rattle.store_text.specs.declared.refusal.StoreRefusal.{StoreRefusal}
use Rattle.store_text.proofs.LendingLaws.{untaken_by}
use Rattle.store_text.proofs.lending.take_second.Goals as goal

pub returns-in-Ok : goal.returns-in-Ok
returns-in-Ok g c =
    let e = c.in-Ok.ensures in (
      refl,
      record {
        reads = e.taken;
        rests = e.rest;
        telling = e.crashes;
        unfailing = e.unfailing;
        moment = e.moment;
        reach = e.reach;
        no_faults = e.no_faults;
        place = e.place;
        keeps = e.keeps;
        tells = e.tells;
        faults = e.blame.same (λ h. cc);
        last_failed = e.blame.same_name (λ h. cc);
        disk_faults = e.disk_faults;
        sound = λ h. (e.sound h).1;
      },
    )

pub give_back-requires : goal.give_back-requires
give_back-requires g c = c.in-Err.ensures.keeps.places c.args.name.now tt c.requires

pub returns-in-Err : goal.returns-in-Err
returns-in-Err g c =
    let e = c.in-Err.ensures in
    let b = c.give_back.ensures in
    let s = g.S.Shelf in
    let d = g.S.Disk.Disk in
    record {
      mid = c.take.new.self;
      second = subst (λ (r : StoreRefusal). IsUntaken s d _ c.args.beside.now c.args.shelf.now c.take.new.self r) (sym c.untaken.ensures)
          (untaken_by s d _ c.args.beside.now c.args.shelf.now c.take.new.self c.in-Err.fault e.taken e.never_long e.blame e.keeps e.tells e.disk_faults e.sound);
      back = record {
        reads = b.file;
        crash = b.crash;
        since = b.since;
        place = b.place;
        keeps = b.keeps;
        tells = b.tells;
        faults = b.faults;
        last_failed = b.last_failed;
        clean = b.clean;
        rose = b.rose;
        later = b.later;
        sound = b.sound;
      };
    }
