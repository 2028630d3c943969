use Rattle.std.proofs.Common.{◌≡◌, ◌<◌, length, rules}
use Rattle.std.specs.List.{fold}
use Rattle.asked_days.specs.Asked.{days_of_posting}
use Rattle.asked_days.specs.Counts.{uncounted}
use Rattle.asked_days.proofs.Keeping.{postings-more}
use Rattle.asked_days.proofs.asked.uncount_postings.Goals as goal

pub loop-posting-preserved : goal.loop-posting-preserved
loop-posting-preserved c =
    let inside : c.loop-posting.posting-index < length c.args.postings.now = search rules in
    let noted : c.uncount_posting.new.days ≡ fold uncounted c.loop-posting.days (days_of_posting c.args.txn.now c.posting-item.result) = search rules in
    postings-more uncounted c.args.txn.now c.args.postings.now c.loop-posting.posting-index c.posting-item.result c.loop-posting.days c.uncount_posting.new.days _ inside c.posting-item.is noted c.loop-posting.invariant
