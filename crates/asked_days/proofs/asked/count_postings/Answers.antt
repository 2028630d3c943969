use Rattle.std.proofs.Common.{◌≡◌, ◌<◌, length, rules}
use Rattle.std.specs.List.{fold}
use Rattle.asked_days.specs.Asked.{days_of_posting}
use Rattle.asked_days.specs.Counts.{counted}
use Rattle.asked_days.proofs.Keeping.{postings-more}
use Rattle.asked_days.proofs.asked.count_postings.Goals as goal

pub loop-posting-preserved : goal.loop-posting-preserved
loop-posting-preserved c =
    let inside : c.loop-posting.posting-index < length c.args.postings.now = search rules in
    let noted : c.count_posting.new.days ≡ fold counted c.loop-posting.days (days_of_posting c.args.txn.now c.posting-item.result) = search rules in
    postings-more counted c.args.txn.now c.args.postings.now c.loop-posting.posting-index c.posting-item.result c.loop-posting.days c.count_posting.new.days _ inside c.posting-item.is noted c.loop-posting.invariant
