use Rattle.std.proofs.Common.{◌∙◌}
use Rattle.additions.proofs.Judging.{all_flat}
use Rattle.additions.proofs.quiet.are_quiet.Goals as goal

pub returns : goal.returns
returns c = c.each_item_quiet.ensures ∙ all_flat c.args.asked c.args.items.now
