use Rattle.std.proofs.Common.{◌+◌, length, take, drop, refl, ap, ◌∙◌}
use Rattle.std.proofs.lemmas.List.{take_at}
use Rattle.hl_base.proofs.short.padded.Goals as goal

pub returns-clause-front : goal.returns-clause-front
returns-clause-front c =
    let n = length c.args.text.now in
    ap (take n) c.put.ensures ∙ take_at c.args.text.now _ n refl
