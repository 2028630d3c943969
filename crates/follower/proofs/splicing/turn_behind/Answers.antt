use Rattle.std.proofs.Common.{◌∙◌, List, ℕ, ap}
use Rattle.std.proofs.lemmas.List.{with_items_is}
use Rattle.follower.specs.Changing.{turned}
use Rattle.follower.proofs.splicing.turn_behind.Goals as goal

pub returns-clause-items : goal.returns-clause-items
returns-clause-items c =
    with_items_is c.args.text.now c.turn_slice.new.bytes (c.turn_slice.auto.bytes ∙ c.as_mut_slice.ensures.len) ∙ c.turn_slice.ensures
    ∙ ap (λ (l : List ℕ). turned c.args.from c.args.count l) c.as_mut_slice.ensures.value
