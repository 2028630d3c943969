use Rattle.std.proofs.Common.{take}
use Rattle.entry_balance.specs.Entry.{share_of, side_values}
use Rattle.entry_balance.proofs.Adding.{whole_range}
use Rattle.entry_balance.proofs.sums.side_sums.Goals as goal

pub returns-in-Err-clause-range : goal.returns-in-Err-clause-range
returns-in-Err-clause-range c = λ is.
    let ps = c.args.postings.now in
    let i = c.loop-posting.posting-index in
    whole_range (share_of c.args.side) ps i c.posting-item.result c.loop-posting-test.true c.posting-item.is
    (c.in-Err.ensures.range is (side_values c.args.side (take i ps)) c.loop-posting.invariant)
