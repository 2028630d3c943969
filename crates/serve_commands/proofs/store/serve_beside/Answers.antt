use Rattle.std.proofs.Common.{false, sym, subst}
use Rattle.shared_desk.specs.Stays.{kit_told}
use Rattle.store_making.specs.declared.refusal.JournalRefusal.{JournalRefusal}
use Rattle.store_text.proofs.LendingLaws.{apart_at, out_places}
use Rattle.serve_commands.specs.Stores.{IsUnopened}
use Rattle.serve_commands.proofs.StoreLaws.{served_at, untaken_so}
use Rattle.serve_commands.proofs.store.serve_beside.Goals as goal

pub give_back_disks-requires-clause-places : goal.give_back_disks-requires-clause-places
give_back_disks-requires-clause-places g c κs within =
    out_places g.S.Shelf g.S.Disk.Disk false c.args.name.now c.args.beside.now c.args.shelf.now c.take_disks.new.shelf (c.in-Ok.first, c.in-Ok.second) c.in-Ok.ensures

pub give_back_disks-requires-clause-apart : goal.give_back_disks-requires-clause-apart
give_back_disks-requires-clause-apart g c κs within = apart_at c.args.name.now c.args.beside.now c.requires

pub returns-in-Ok : goal.returns-in-Ok
returns-in-Ok g c =
    let tell = kit_told g.H.Door.Door g.H.Clock.Clock g.H.Maker.Maker in
    let link = g.H.Door.Link.Link in
    let d = c.serve_disks-first in
    served_at g.S.Shelf g.S.Disk.Disk c.args.name.now c.args.shelf.now tell link.coming link.sent c.args.page.now c.args.post
    (g.H.House.told c.args.house.now) (g.H.House.told d.new.house) c.args.beside.now c.requires c.take_disks.new.shelf c.give_back_disks.new.shelf
    (c.in-Ok.first, c.in-Ok.second) (d.result.0, d.result.1) c.in-Ok.ensures c.give_back_disks.ensures d.result.2 d.ensures

pub returns-in-Err : goal.returns-in-Err
returns-in-Err g c =
    let told = g.H.House.told c.args.house.now in
    subst (λ (e : JournalRefusal). IsUnopened g.S.Shelf g.S.Disk.Disk c.args.name.now c.args.shelf.now c.take_disks.new.shelf told told e) (sym c.of_store.ensures)
    (untaken_so g.S.Shelf g.S.Disk.Disk c.args.name.now c.args.shelf.now c.take_disks.new.shelf told c.in-Err.refusal c.args.beside.now c.requires c.in-Err.ensures)
