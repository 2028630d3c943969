use Rattle.std.proofs.Common.{length, drop, ap, ◌∙◌}
use Rattle.hl_base.specs.Items.{items_of}
use Rattle.text_ends.proofs.kept.KeptEnd.count_behind.Goals as goal

pub taken-reach-requires : goal.taken-reach-requires
taken-reach-requires c = c.requires

pub returns : goal.returns
returns c =
    c.len.ensures ∙ ap length c.in_ok-pieces.ensures.cut
    ∙ ap (λ t. length (items_of t)) (c.split_at.ensures.back ∙ ap (λ n. drop n c.args.bytes.now) c.taken-reach.ensures.bytes)
