use Rattle.counted_styles.proofs.Whole.{are-none}
use Rattle.counted_styles.proofs.styles.CountedStyles.new.Goals as goal

pub returns : goal.returns
returns c =
    are-none _ c.new-commodities.ensures.heads c.new-commodities.ensures.counts c.new-defaults.ensures.heads c.new-defaults.ensures.counts
    c.new-first.ensures.heads c.new-first.ensures.counts c.new-second.ensures.heads c.new-second.ensures.counts
