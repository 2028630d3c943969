use Rattle.store_commands.specs.Asking.{told_by}
use Rattle.store_commands.proofs.EditLaws.{edits_kind}
use Rattle.store_commands.proofs.edit.edit_store.Goals as goal

pub returns-clause-kind : goal.returns-clause-kind
returns-clause-kind g c =
    let edit = c.args.edit.now in
    let asked = c.edit_beside in
    edits_kind g.S.Shelf g.S.Disk.Disk edit.store edit.request edit.day (told_by g.M.Maker c.args.maker.now asked.new.maker) c.args.shelf.now
    asked.new.shelf asked.result asked.ensures
