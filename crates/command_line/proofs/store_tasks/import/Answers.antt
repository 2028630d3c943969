use Rattle.std.proofs.Common.{Ok, Err, refl}
use Rattle.command_line.specs.StoreTasks.{EditedBy}
use Rattle.command_line.proofs.Importing.{imports_so}
use Rattle.command_line.proofs.store_tasks.import.Goals as goal

pub returns-in-Ok-clause-imports : goal.returns-in-Ok-clause-imports
returns-in-Ok-clause-imports g c =
    imports_so g.S.Shelf c.args.what c.args.day (EditedBy g.S.Shelf g.S.Disk.Disk g.M.Maker) c.args.outside.now c.edit.new.outside c.edit.result
    c.load_import.new.shelf (Ok c.in-Ok.asked) c.in-Ok.ensures.loads c.edit.ensures.edits

pub returns-in-Err-clause-imports : goal.returns-in-Err-clause-imports
returns-in-Err-clause-imports g c =
    let last = record (c.args.outside.now) { shelf = c.load_import.new.shelf } in
    imports_so g.S.Shelf c.args.what c.args.day (EditedBy g.S.Shelf g.S.Disk.Disk g.M.Maker) c.args.outside.now last (Err c.in-Err.refusal)
    c.load_import.new.shelf (Err c.in-Err.refusal) c.in-Err.ensures.loads (refl, refl)
