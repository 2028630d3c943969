use Rattle.std.proofs.Common.{inl, inr, ℕ, List, refl, ◌∙◌, subst}
use Rattle.command_line.specs.Previewing.{NotesThen, PreviewsStore}
use Rattle.command_line.specs.Scenes.{scene}
use Rattle.command_line.proofs.previews.preview_loaded.Goals as goal

pub returns-in-Ok-clause-previews : goal.returns-in-Ok-clause-previews
returns-in-Ok-clause-previews g c =
    let edit = c.args.edit.now in
    let noted = c.preview_noted in
    let F : List ℕ → Type 0 = λ lines. NotesThen (scene g.J.Source g.O.Sink g.E.Sink g.S.Shelf g.M.Maker) lines
    (PreviewsStore g.S.Shelf g.M.Maker edit.store edit.request edit.day) c.args.outside.now noted.new.outside noted.result in
    inl (subst F (c.as_slice.ensures ∙ c.in-Ok.ensures) noted.ensures.previews)

pub returns-in-Err-clause-previews : goal.returns-in-Err-clause-previews
returns-in-Err-clause-previews g c = inr (refl, refl)
