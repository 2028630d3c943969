use Rattle.std.proofs.Common.{List, length, take, sym, ap, ◌∙◌, arith, length-append}
use Rattle.std.proofs.lemmas.List.{take_all}
use Rattle.book.specs.Postings.{txn_in, txns_of}
use Rattle.book.specs.declared.item.Placed.{Placed}
use Rattle.book.proofs.Items.{txns_more}
use Rattle.book.proofs.item.count_txns.Goals as goal

pub loop-placed-preserved : goal.loop-placed-preserved
loop-placed-preserved c =
    let more = txns_more c.args.items.now c.loop-placed.placed-index c.placed-item.result c.loop-placed-test.true c.placed-item.is in
    let front = txns_of (take c.loop-placed.placed-index c.args.items.now) in
    record {
      number = omega (arith, ap length more, length-append front (txn_in c.placed-item.result.item), c.loop-placed.invariant.number, c.count_in-count.ensures.count);
      few = omega (arith, c.loop-placed.invariant.few, c.count_in-count.ensures.few);
    }

pub returns-clause-count : goal.returns-clause-count
returns-clause-count c = sym c.loop-placed.invariant.number ∙ ap (λ (ps : List Placed). length (txns_of ps)) (take_all c.loop-placed.placed-index c.args.items.now c.loop-placed-test.false)
