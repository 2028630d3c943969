use Rattle.std.proofs.Common.{◌++◌, length, ap, ◌∙◌, arith}
use Rattle.loaded_texts.proofs.room.put_items.Goals as goal

pub joined-requires : goal.joined-requires
joined-requires g c = omega (arith, ap length c.replace-kept.ensures.value, c.requires)

pub returns : goal.returns
returns g c = c.joined.ensures ∙ (λ i. c.replace-kept.ensures.value i ++ c.args.more)
