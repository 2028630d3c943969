use Rattle.std.proofs.Common.{refl}
use Rattle.store_commands.specs.Asking.{told_by}
use Rattle.command_line.proofs.PreviewEnds.{edit_of}
use Rattle.command_line.proofs.previews.preview_files.Goals as goal

pub answer_asked-requires : goal.answer_asked-requires
answer_asked-requires g c =
    let asked = c.preview_edit-asked in
    let edit = c.args.edit.now in
    edit_of c.args.first.now c.args.second.now edit.request edit.day.0 (told_by g.M.Maker c.args.outside.now.maker asked.new.maker) asked.result asked.ensures

pub returns-clause-previews : goal.returns-clause-previews
returns-clause-previews g c = record {
  asked = c.preview_edit-asked.result;
  previews = c.preview_edit-asked.ensures;
  told = c.answer_asked.ensures.told;
  rest = refl;
}
