use Rattle.std.proofs.Common.{inl, inr, ℕ, List, refl, subst}
use Rattle.command_line.specs.Previewing.{LoadsAny, PreviewsFiles, most_stored}
use Rattle.command_line.proofs.previews.preview_beside.Goals as goal

pub returns-in-Ok-clause-previews : goal.returns-in-Ok-clause-previews
returns-in-Ok-clause-previews g c =
    let edit = c.args.edit.now in
    let named = c.preview_named in
    let F : List ℕ → Type 0 = λ name. LoadsAny g.S.Shelf most_stored name
    (λ second. PreviewsFiles g.M.Maker edit.store c.args.first.now second edit.request edit.day) c.args.outside.now named.new.outside named.result in
    inl (subst F c.in-Ok.ensures named.ensures.previews)

pub returns-in-Err-clause-previews : goal.returns-in-Err-clause-previews
returns-in-Err-clause-previews g c = inr (refl, refl)
