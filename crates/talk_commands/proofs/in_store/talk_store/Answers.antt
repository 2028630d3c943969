use Rattle.std.proofs.Common.{false, refl, sym, subst}
use Rattle.store_making.specs.declared.refusal.JournalRefusal.{JournalRefusal}
use Rattle.store_text.proofs.LendingLaws.{apart_at, out_places}
use Rattle.store_commands.specs.Asking.{told_by}
use Rattle.talk_commands.specs.Links.{wire}
use Rattle.talk_commands.proofs.Connecting.{Talks, through_talk, unconnected, uncalled_talk, untaken_talk}
use Rattle.talk_commands.proofs.in_store.talk_store.Goals as goal

pub give_back_disks-requires-clause-places : goal.give_back_disks-requires-clause-places
give_back_disks-requires-clause-places g c κs within =
    out_places g.S.Shelf g.S.Disk.Disk false c.args.talk.now.store c.in-Ok.beside c.args.shelf.now c.take_disks.new.shelf c.in-Ok-take_disks.disks c.in-Ok-take_disks.ensures

pub give_back_disks-requires-clause-apart : goal.give_back_disks-requires-clause-apart
give_back_disks-requires-clause-apart g c κs within = apart_at c.args.talk.now.store c.in-Ok.beside c.in-Ok.ensures

pub returns-in_default-clause-talks : goal.returns-in_default-clause-talks
returns-in_default-clause-talks g c =
    let talk = c.args.talk.now in
    uncalled_talk g.S.Shelf g.S.Disk.Disk talk.store talk.terms.allow talk.terms.day.0 (told_by g.M.Maker c.args.maker.now c.args.maker.now)
    (wire g.K.Link c.args.link.now c.args.link.now) c.args.shelf.now (record { sent = refl; reads = refl; writes = refl }) (record { count = refl; told = refl })

pub returns-in-Ok-take_disks-clause-talks : goal.returns-in-Ok-take_disks-clause-talks
returns-in-Ok-take_disks-clause-talks g c =
    let d = c.talk_disks-first in
    let talk = c.args.talk.now in
    through_talk g.S.Shelf g.S.Disk.Disk talk.store talk.terms.allow talk.terms.day.0 (told_by g.M.Maker c.args.maker.now d.new.maker)
    (wire g.K.Link c.args.link.now d.new.link) c.args.shelf.now c.in-Ok.beside c.in-Ok.ensures
    c.take_disks.new.shelf c.give_back_disks.new.shelf c.in-Ok-take_disks.disks (d.result.0, d.result.1) c.in-Ok-take_disks.ensures c.give_back_disks.ensures
    d.result.2 d.ensures.talks

pub returns-clause-talks : goal.returns-clause-talks
returns-clause-talks g c =
    let talk = c.args.talk.now in
    let p = told_by g.M.Maker c.args.maker.now c.args.maker.now in
    let w = wire g.K.Link c.args.link.now c.args.link.now in
    subst (λ (e : JournalRefusal). Talks g.S.Shelf g.S.Disk.Disk talk.store talk.terms.allow talk.terms.day.0 p w c.args.shelf.now c.take_disks.new.shelf
    (unconnected e)) (sym c.of_store.ensures)
    (untaken_talk g.S.Shelf g.S.Disk.Disk talk.store talk.terms.allow talk.terms.day.0 p w c.args.shelf.now c.take_disks.new.shelf c.in-Err.refusal
    (record { sent = refl; reads = refl; writes = refl }) (record { count = refl; told = refl }) c.in-Ok.beside c.in-Ok.ensures c.in-Err.ensures)
