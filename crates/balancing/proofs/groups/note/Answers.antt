use Rattle.std.proofs.Common.{◌≡◌, List, Some, length, ◌-◌, sym, ap, ◌∙◌}
use Rattle.std.specs.List.{slice_get}
use Rattle.std.specs.Option.{option_copied}
use Rattle.balancing.specs.Groups.{Group}
use Rattle.balancing.proofs.Ordered.{noted_last}
use Rattle.balancing.proofs.groups.note.Goals as goal

pub returns-then-last-group-2 : goal.returns-then-last-group-2
returns-then-last-group-2 c =
    let same : c.in-Some.last.now ≡ c.args.group = λ i. (c.if-last-group.true i, c.if-last-group-2.true i) in
    let last = ap (λ (gs : List Group). slice_get gs (length gs - 1)) (sym c.deref.ensures.value) ∙ sym c.last.ensures.value ∙ ap option_copied c.in-Some.is ∙ ap Some same in
    noted_last c.args.groups.now.items c.args.group last
