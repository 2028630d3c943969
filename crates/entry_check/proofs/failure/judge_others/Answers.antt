use Rattle.entry_check.proofs.Counting.{never_passed}
use Rattle.entry_check.proofs.failure.judge_others.Goals as goal

pub returns-in-Some-clause-few : goal.returns-in-Some-clause-few
returns-in-Some-clause-few g c = never_passed _ c.failing.result c.args.posting.now.line c.args.wanted.now _ c.failing.ensures.fault
