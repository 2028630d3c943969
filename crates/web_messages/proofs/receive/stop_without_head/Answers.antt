use Rattle.std.proofs.Common.{length, arith, ap}
use Rattle.web_messages.proofs.ReceiptLemmas.{too_long_stays, cut_stays}
use Rattle.web_messages.proofs.receive.stop_without_head.Goals as goal

pub returns-then-had-ge-MOST_HEAD : goal.returns-then-had-ge-MOST_HEAD
returns-then-had-ge-MOST_HEAD c =
    let u = c.args.incoming.now in
    let size = ap length c.as_slice-had.ensures in
    too_long_stays u.ended u.bytes c.requires.open (omega (arith, size))

pub returns-else-had-ge-MOST_HEAD : goal.returns-else-had-ge-MOST_HEAD
returns-else-had-ge-MOST_HEAD c =
    let u = c.args.incoming.now in
    let size = ap length c.as_slice-had.ensures in
    cut_stays u.ended u.bytes (length c.as_slice-had.result.now) c.requires.open c.requires.settled (omega (arith, size)) (omega (arith, size)) size
