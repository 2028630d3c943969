use Rattle.std.proofs.Common.{◌∙◌, List, ℕ, ◌++◌, take, drop, ap}
use Rattle.follower.proofs.splicing.turn_slice.Goals as goal

pub returns : goal.returns
returns c =
    let count = c.args.count in
    let parts = c.split_at_mut-behind.ensures in
    let behind = c.rotate_left.ensures.after ∙ ap (λ (l : List ℕ). drop count l ++ take count l) parts.back in
    (λ i. parts.front i ++ behind i)
