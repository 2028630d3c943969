use Rattle.std.proofs.Common.{ap, ◌∙◌}
use Rattle.book.specs.declared.item.Placed.{Placed}
use Rattle.rule_entries.specs.Making.{made_in}
use Rattle.book.specs.ByDay.{by_day}
use Rattle.rule_entries.proofs.Totals.{flat_all}
use Rattle.rule_entries.proofs.making.made_txns.Goals as goal

pub returns : goal.returns
returns c =
    c.in_ok-sort_by_day.ensures
    ∙ ap by_day (c.loop-placed.invariant ∙ flat_all (λ (placed : Placed). made_in c.args.window placed.item) c.as_slice-placed-items.result.now c.args.items.now
    c.loop-placed.placed-index c.loop-placed-test.false c.as_slice-placed-items.ensures)
