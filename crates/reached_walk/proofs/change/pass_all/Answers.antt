use Rattle.std.proofs.Common.{◌≡◌, List, sym, subst, ◌∙◌}
use Rattle.std.specs.List.{AllZip}
use Rattle.std.proofs.lemmas.List.{with_items_is}
use Rattle.reached_walk.specs.declared.change.Change.{Change}
use Rattle.reached_walk.specs.Notes.{Passes}
use Rattle.reached_walk.proofs.change.pass_all.Goals as goal

pub returns : goal.returns
returns c =
    let P : List Change → Type 0 = λ cs. AllZip (Passes c.args.watchers.now c.args.spot) cs c.pass_each.new.changes in
    let Q : List Change → Type 0 = λ cs. AllZip (Passes c.args.watchers.now c.args.spot) c.args.changes.now.items cs in
    subst Q (sym (with_items_is c.args.changes.now c.pass_each.new.changes (c.pass_each.auto.changes ∙ c.deref_mut.ensures.len)))
    (subst P c.deref_mut.ensures.value c.pass_each.ensures)
