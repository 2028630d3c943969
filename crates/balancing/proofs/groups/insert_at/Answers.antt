use Rattle.std.proofs.Common.{ap, ◌∙◌}
use Rattle.std.specs.BTreeSet.{insert_key}
use Rattle.balancing.specs.Groups.{Group, group_cmp}
use Rattle.balancing.proofs.Ordered.{any_default}
use Rattle.balancing.proofs.groups.insert_at.Goals as goal

pub returns : goal.returns
returns c = λ d. c.in_ok-insert.ensures.keys ∙ ap (λ (g : Group). insert_key group_cmp c.args.set.now.keys g) (any_default c.args.groups.now c.args.at _ d c.requires)
