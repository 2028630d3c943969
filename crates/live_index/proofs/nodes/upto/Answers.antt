use Rattle.std.proofs.Common.{◌-◌, refl, arith}
use Rattle.live_index.proofs.InRange.{first-sum, can-add, next-sum, same-sum}
use Rattle.live_index.proofs.nodes.upto.Goals as goal

pub loop-level-init : goal.loop-level-init
loop-level-init g c = record {
  digits = omega arith;
  sum = first-sum (g.N.Nodes.told c.args.nodes.now) c.args.account.now c.args.symbol.now c.args.below c.args.end.0 4194304 c.zero-sum.result c.requires c.zero-sum.ensures;
  few = omega arith;
  kept = omega arith;
  read = refl;
  checked = refl;
}

pub sum_of-sum-requires : goal.sum_of-sum-requires
sum_of-sum-requires g c =
    can-add (g.N.Nodes.told c.args.nodes.now) c.args.account.now c.args.symbol.now c.args.below c.args.end.0 (c.loop-level.level - 1) c.loop-level.level c.loop-level.sum c.node-node.result c.node-node.ensures.fits (omega arith) c.if-days-eq1.true c.loop-level.invariant.sum c.node-node.ensures.sum

pub loop-level-preserved-then-days-eq1 : goal.loop-level-preserved-then-days-eq1
loop-level-preserved-then-days-eq1 g c = record {
  digits = omega arith;
  sum = next-sum (g.N.Nodes.told c.args.nodes.now) c.args.account.now c.args.symbol.now c.args.below c.args.end.0 (c.loop-level.level - 1) c.loop-level.level c.loop-level.sum c.node-node.result c.sum_of-sum.result (omega arith) c.if-days-eq1.true c.loop-level.invariant.sum c.node-node.ensures.sum c.sum_of-sum.ensures.value c.sum_of-sum.ensures.places;
  few = grind arith;
  kept = grind arith;
  read = cc;
  checked = cc;
}

pub loop-level-preserved : goal.loop-level-preserved
loop-level-preserved g c = record {
  digits = omega arith;
  sum = same-sum (g.N.Nodes.told c.args.nodes.now) c.args.account.now c.args.symbol.now c.args.below c.args.end.0 (c.loop-level.level - 1) c.loop-level.level c.loop-level.sum (omega arith) (omega arith) c.loop-level.invariant.sum;
  few = omega arith;
  kept = c.loop-level.invariant.kept;
  read = c.loop-level.invariant.read;
  checked = c.loop-level.invariant.checked;
}
