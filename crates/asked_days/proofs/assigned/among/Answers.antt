use Rattle.std.proofs.Common.{◌<◌, ◌≤◌, length, ap, ◌∙◌, arith, rules}
use Rattle.std.proofs.lemmas.List.{take_all}
use Rattle.asked_days.specs.Asked.{assigned_among}
use Rattle.asked_days.proofs.Assigning.{posting-further}
use Rattle.asked_days.proofs.assigned.among.Goals as goal

pub loop-posting-preserved : goal.loop-posting-preserved
loop-posting-preserved c =
    let inside : c.loop-posting.posting-index < length c.args.postings.now = search rules in
    posting-further c.args.postings.now c.loop-posting.posting-index c.posting-item.result c.loop-posting.count c.in_ok-count.count inside c.posting-item.is c.loop-posting.invariant c.in_ok-count.ensures

pub returns : goal.returns
returns c =
    let past : length c.args.postings.now ≤ c.loop-posting.posting-index = omega arith in
    c.loop-posting.invariant ∙ ap assigned_among (take_all c.loop-posting.posting-index c.args.postings.now past)
