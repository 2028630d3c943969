use Rattle.std.proofs.Common.{refl}
use Rattle.walked_edits.proofs.kept.take_kept.Goals as goal

pub returns : goal.returns
returns c = record { index = c.in_ok-replace.ensures.ok; turnover = c.in_ok-replace-2.ensures; days = refl }
