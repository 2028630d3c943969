use Rattle.entry_check.proofs.Counting.{never_passed}
use Rattle.entry_check.proofs.failure.judge_total.Goals as goal

pub returns-then-not-is_same-clause-few : goal.returns-then-not-is_same-clause-few
returns-then-not-is_same-clause-few g c = never_passed _ c.failing.result c.args.posting.now.line c.args.wanted.now _ c.failing.ensures.fault
