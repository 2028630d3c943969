use Rattle.std.proofs.Common.{sym}
use Rattle.store_text.proofs.lending.give_back_disks.Goals as goal

pub give_back-requires : goal.give_back-requires
give_back-requires g c = c.requires.places.0

pub give_back-requires-2 : goal.give_back-requires-2
give_back-requires-2 g c = c.give_back.ensures.keeps.places c.args.beside.now (λ e. c.requires.apart (sym e)) c.requires.places.1

pub returns : goal.returns
returns g c =
    let a = c.give_back.ensures in
    let b = c.give_back-2.ensures in
    record {
      mid = c.give_back.new.self;
      first = record {
        reads = a.file;
        crash = a.crash;
        since = a.since;
        place = a.place;
        keeps = a.keeps;
        tells = a.tells;
        faults = a.faults;
        last_failed = a.last_failed;
        clean = a.clean;
        rose = a.rose;
        later = a.later;
        sound = a.sound;
      };
      second = record {
        reads = b.file;
        crash = b.crash;
        since = b.since;
        place = b.place;
        keeps = b.keeps;
        tells = b.tells;
        faults = b.faults;
        last_failed = b.last_failed;
        clean = b.clean;
        rose = b.rose;
        later = b.later;
        sound = b.sound;
      };
    }
