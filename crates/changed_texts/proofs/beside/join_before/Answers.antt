use Rattle.std.proofs.Common.{sym, ◌∙◌}
use Rattle.changed_texts.proofs.Joints.{fits_behind}
use Rattle.changed_texts.proofs.beside.join_before.Goals as goal

pub made_longer-requires : goal.made_longer-requires
made_longer-requires c =
    fits_behind c.args.number c.args.items.now c.args.gap c.args.gap c.len_at-more.result (sym c.is_gap_at.ensures ∙ c.if-is_gap_at.true) c.requires.fits (c.len_at-more.ensures c.args.gap)
