use Rattle.balance_rows.proofs.Giving.{given_more}
use Rattle.balance_rows.proofs.groups.add_parents.Goals as goal

pub loop-at-preserved : goal.loop-at-preserved
loop-at-preserved c = record {
  is = given_more c.args.account.now c.args.cells.now c.args.groups.now.entries c.loop-at.groups.entries c.add_parent.new.groups.entries c.loop-at.at c.loop-at.invariant.is c.in_ok-add_parent.ensures.added;
  ordered = c.in_ok-add_parent.ensures.ordered;
}
