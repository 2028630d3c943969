use Rattle.moved_lines.specs.Moving.{moved_rule_posting, CanMoveRulePosting}
use Rattle.moved_lines.proofs.Lists.{changed-all, changed-can, changed-step}
use Rattle.moved_lines.proofs.items.move_rule_postings.Goals as goal

pub move_rule_posting-requires : goal.move_rule_posting-requires
move_rule_posting-requires c =
    changed-can (moved_rule_posting c.args.by) c.args.postings.now c.loop-posting.postings c.loop-posting.posting-index (CanMoveRulePosting c.args.by) c.posting-item.result
    c.loop-posting-test.true c.loop-posting.invariant c.requires

pub loop-posting-preserved : goal.loop-posting-preserved
loop-posting-preserved c =
    changed-step (moved_rule_posting c.args.by) c.args.postings.now c.loop-posting.postings c.loop-posting.posting-index c.posting-item.result c.move_rule_posting.new.posting
    c.loop-posting-test.true c.loop-posting.invariant c.move_rule_posting.ensures

pub returns : goal.returns
returns c =
    changed-all (moved_rule_posting c.args.by) c.args.postings.now c.loop-posting.postings c.loop-posting.posting-index c.loop-posting-test.false c.loop-posting.invariant
