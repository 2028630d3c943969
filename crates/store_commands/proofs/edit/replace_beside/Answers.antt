use Rattle.std.proofs.Common.{false, refl, sym, subst}
use Rattle.store_making.specs.declared.refusal.JournalRefusal.{JournalRefusal}
use Rattle.store_text.proofs.LendingLaws.{apart_at, out_places}
use Rattle.store_commands.specs.Asking.{told_by}
use Rattle.store_commands.proofs.EditLaws.{Replaces, refused, replaces_at, untaken_replaces}
use Rattle.store_commands.proofs.edit.replace_beside.Goals as goal

pub give_back_disks-requires-clause-places : goal.give_back_disks-requires-clause-places
give_back_disks-requires-clause-places g c κs within =
    out_places g.S.Shelf g.S.Disk.Disk false c.args.names.now.first.now c.args.names.now.second.now c.args.shelf.now c.take_disks.new.shelf (c.in-Ok.first, c.in-Ok.second) c.in-Ok.ensures

pub give_back_disks-requires-clause-apart : goal.give_back_disks-requires-clause-apart
give_back_disks-requires-clause-apart g c κs within = apart_at c.args.names.now.first.now c.args.names.now.second.now c.requires.name

pub returns-in-Ok : goal.returns-in-Ok
returns-in-Ok g c =
    let d = c.replace_in_disks-first in
    let what = c.args.what in
    replaces_at g.S.Shelf g.S.Disk.Disk c.args.names.now.first.now what.text what.base what.day (told_by g.M.Maker c.args.maker.now d.new.maker) c.args.shelf.now c.args.names.now.second.now
    c.requires.name c.take_disks.new.shelf c.give_back_disks.new.shelf (c.in-Ok.first, c.in-Ok.second) (d.result.0, d.result.1) c.in-Ok.ensures c.give_back_disks.ensures
    d.result.2 d.ensures

pub returns-in-Err : goal.returns-in-Err
returns-in-Err g c =
    let what = c.args.what in
    let p = told_by g.M.Maker c.args.maker.now c.args.maker.now in
    subst (λ (e : JournalRefusal). Replaces g.S.Shelf g.S.Disk.Disk c.args.names.now.first.now what.text what.base what.day p c.args.shelf.now c.take_disks.new.shelf (refused e))
    (sym c.of_store.ensures)
    (untaken_replaces g.S.Shelf g.S.Disk.Disk c.args.names.now.first.now what.text what.base what.day p c.args.shelf.now c.take_disks.new.shelf c.in-Err.refusal
    (record { count = refl; told = refl }) c.args.names.now.second.now c.requires.name c.in-Err.ensures)
