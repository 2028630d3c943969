use Rattle.std.proofs.Common.{Ok, Err, refl}
use Rattle.command_line.specs.Previewing.{PreviewsNoted}
use Rattle.command_line.specs.Scenes.{scene}
use Rattle.command_line.proofs.Importing.{imports_so}
use Rattle.command_line.proofs.previews.preview_import.Goals as goal

pub returns-in-Ok-clause-previews : goal.returns-in-Ok-clause-previews
returns-in-Ok-clause-previews g c =
    imports_so g.S.Shelf c.args.what c.args.day (PreviewsNoted (scene g.J.Source g.O.Sink g.E.Sink g.S.Shelf g.M.Maker) g.S.Shelf g.M.Maker) c.args.outside.now c.preview_loaded.new.outside c.preview_loaded.result
    c.load_import.new.shelf (Ok c.in-Ok.asked) c.in-Ok.ensures.loads c.preview_loaded.ensures.previews

pub returns-in-Err-clause-previews : goal.returns-in-Err-clause-previews
returns-in-Err-clause-previews g c =
    let last = record (c.args.outside.now) { shelf = c.load_import.new.shelf } in
    imports_so g.S.Shelf c.args.what c.args.day (PreviewsNoted (scene g.J.Source g.O.Sink g.E.Sink g.S.Shelf g.M.Maker) g.S.Shelf g.M.Maker) c.args.outside.now last (Err c.in-Err.refusal)
    c.load_import.new.shelf (Err c.in-Err.refusal) c.in-Err.ensures.loads (refl, refl)
