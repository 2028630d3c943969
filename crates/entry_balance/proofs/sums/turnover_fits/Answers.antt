use Rattle.std.proofs.Common.{sym, subst, take}
use Rattle.entry_balance.specs.Tally.{IsRange}
use Rattle.entry_balance.specs.Entry.{moved_by, moved}
use Rattle.entry_balance.proofs.Adding.{whole_range}
use Rattle.entry_balance.proofs.sums.turnover_fits.Goals as goal

pub returns-in-Err-Range : goal.returns-in-Err-Range
returns-in-Err-Range c =
    let ps = c.args.postings.now in
    let i = c.loop-posting.posting-index in
    sym (whole_range moved_by ps i c.posting-item.result c.loop-posting-test.true c.posting-item.is
    (c.in-Err-Range.ensures.range (subst IsRange (sym c.in-Err-Range.field-0-is) tt) (moved (take i ps)) c.loop-posting.invariant))
