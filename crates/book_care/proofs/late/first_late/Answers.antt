use Rattle.std.proofs.Common.{◌≡◌, ◌+◌, ◌-◌, ◌<◌, length, arith}
use Rattle.book_care.proofs.Latest.{txn_more}
use Rattle.book_care.proofs.late.first_late.Goals as goal

pub loop-number-preserved : goal.loop-number-preserved
loop-number-preserved c =
    let inside : c.loop-number.number - 1 < length c.args.txns.now = omega arith in
    let next : c.loop-number.number ≡ c.loop-number.number - 1 + 1 = omega arith in
    record {
      within = omega arith;
      least = txn_more c.args.on.0 c.loop-number.number (c.loop-number.number - 1) c.args.txns.now c.index-txns-number.result c.loop-number.least c.late_in-least.result next inside c.index-txns-number.is c.loop-number.invariant.least c.late_in-least.ensures;
    }
