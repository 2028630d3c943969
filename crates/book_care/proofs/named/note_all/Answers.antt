use Rattle.std.proofs.Common.{◌<◌, length, arith}
use Rattle.book_care.specs.Asked.{asked_of}
use Rattle.book_care.specs.Names.{has}
use Rattle.book_care.proofs.Loops.{meant_more}
use Rattle.book_care.proofs.named.note_all.Goals as goal

pub loop-posting-preserved : goal.loop-posting-preserved
loop-posting-preserved c =
    let within : c.loop-posting.posting-index < length c.as_slice-posting-items.result.now = omega arith in
    record {
      names = λ q. meant_more (asked_of c.args.closing.now) q _ (has c.loop-posting.names q) (has c.note.new.names q) c.args.txn.now c.as_slice-posting-items.result.now c.loop-posting.posting-index c.posting-item.result (c.loop-posting.invariant.names q) within c.posting-item.is (c.in_ok-note.ensures.names q);
      serves = c.in_ok-note.ensures.serves;
    }
