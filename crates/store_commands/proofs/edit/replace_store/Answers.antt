use Rattle.std.proofs.Common.{refl}
use Rattle.store_commands.specs.Asking.{told_by}
use Rattle.store_commands.proofs.EditLaws.{replaces_kind, uncalled_replaces}
use Rattle.store_commands.proofs.edit.replace_store.Goals as goal

pub returns-clause-kind : goal.returns-clause-kind
returns-clause-kind g c =
    let what = c.args.what in
    let asked = c.replace_beside in
    replaces_kind g.S.Shelf g.S.Disk.Disk c.args.store.now what.text what.base what.day (told_by g.M.Maker c.args.maker.now asked.new.maker) c.args.shelf.now
    asked.new.shelf asked.result asked.ensures

pub returns-in_default-clause-replaces : goal.returns-in_default-clause-replaces
returns-in_default-clause-replaces g c =
    let what = c.args.what in
    uncalled_replaces g.S.Shelf g.S.Disk.Disk c.args.store.now what.text what.base what.day (told_by g.M.Maker c.args.maker.now c.args.maker.now) c.args.shelf.now
    (record { count = refl; told = refl })
