use Rattle.std.proofs.Common.{arith, length-drop}
use Rattle.csv_entries.specs.Ordering.{turned_runs}
use Rattle.csv_entries.proofs.Runs.{one_more}
use Rattle.csv_entries.proofs.ordering.turn_runs.Goals as goal

pub loop-at-preserved : goal.loop-at-preserved
loop-at-preserved c = record {
  within = omega (arith, length-drop c.loop-at.at c.loop-at.txns, c.run_length-count.ensures.within, c.loop-at.invariant.within, c.turn_run.auto.txns);
  so_far = one_more (turned_runs c.args.txns.now) c.loop-at.txns c.turn_run.new.txns c.loop-at.at c.run_length-count.result
      c.loop-at.invariant.so_far c.loop-at.invariant.within c.run_length-count.ensures.within c.run_length-count.ensures.cut c.turn_run.ensures;
}
