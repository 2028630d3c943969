use Rattle.std.proofs.Common.{arith}
use Rattle.kept_books.proofs.Adding.{days_all, days_none, days_step}
use Rattle.kept_books.proofs.behind.days_behind.Goals as goal

pub loop-at-init : goal.loop-at-init
loop-at-init c = days_none c.args.days.now c.in_ok-all.all c.args.book.now c.args.txns.now c.requires c.in_ok-all.ensures

pub loop-at-preserved : goal.loop-at-preserved
loop-at-preserved c =
    days_step c.loop-at.all c.in_ok-more.more c.args.book.now c.args.txns.now c.loop-at.at c.index-txns-at.result (omega arith) c.index-txns-at.is c.loop-at.invariant
    (λ b are size. c.in_ok-more.ensures b are (omega (arith, size)))

pub returns : goal.returns
returns c = days_all c.loop-at.all c.args.book.now c.args.txns.now c.loop-at.at (omega arith) c.loop-at.invariant
