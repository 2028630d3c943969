use Rattle.moved_lines.specs.Moving.{moved_posting, CanMovePosting}
use Rattle.moved_lines.proofs.Lists.{changed-all, changed-can, changed-step}
use Rattle.moved_lines.proofs.txns.move_postings.Goals as goal

pub move_posting-requires : goal.move_posting-requires
move_posting-requires c =
    changed-can (moved_posting c.args.by) c.args.postings.now c.loop-posting.postings c.loop-posting.posting-index (CanMovePosting c.args.by) c.posting-item.result
    c.loop-posting-test.true c.loop-posting.invariant c.requires

pub loop-posting-preserved : goal.loop-posting-preserved
loop-posting-preserved c =
    changed-step (moved_posting c.args.by) c.args.postings.now c.loop-posting.postings c.loop-posting.posting-index c.posting-item.result c.move_posting.new.posting
    c.loop-posting-test.true c.loop-posting.invariant c.move_posting.ensures

pub returns : goal.returns
returns c =
    changed-all (moved_posting c.args.by) c.args.postings.now c.loop-posting.postings c.loop-posting.posting-index c.loop-posting-test.false c.loop-posting.invariant
