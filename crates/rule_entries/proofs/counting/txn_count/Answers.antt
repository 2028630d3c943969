use Rattle.std.proofs.Common.{length, ap, ◌∙◌}
use Rattle.book.specs.declared.item.Placed.{Placed}
use Rattle.rule_entries.specs.Counted.{told}
use Rattle.rule_entries.specs.Making.{made_in}
use Rattle.rule_entries.proofs.Totals.{flat_all, flat_count}
use Rattle.rule_entries.proofs.counting.txn_count.Goals as goal

pub loop-placed-preserved : goal.loop-placed-preserved
loop-placed-preserved c =
    c.saturating_add-count.ensures
    ∙ flat_count (λ (placed : Placed). made_in c.args.window placed.item) c.as_slice-placed-items.result.now c.loop-placed.placed-index c.placed-item.result
    c.loop-placed.count c.txns_in.result c.loop-placed-test.true c.loop-placed.invariant
    (c.txns_in.ensures ∙ ap (λ (placed : Placed). told (length (made_in c.args.window placed.item))) c.placed-item.is)

pub returns : goal.returns
returns c =
    c.loop-placed.invariant
    ∙ ap (λ ts. told (length ts)) (flat_all (λ (placed : Placed). made_in c.args.window placed.item) c.as_slice-placed-items.result.now c.args.items.now
    c.loop-placed.placed-index c.loop-placed-test.false c.as_slice-placed-items.ensures)
