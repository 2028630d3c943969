use Rattle.walked_edits.proofs.Keeping.{whole_copy}
use Rattle.walked_edits.proofs.kept.copied_kept.Goals as goal

pub returns : goal.returns
returns c = λ book whole. whole_copy book c.args.kept.now _ c.in_ok-index.ensures c.in_ok-turnover.ensures c.in_ok-days.ensures whole
