use Rattle.std.proofs.Common.{◌≡◌, false}
use Rattle.text_store.specs.Stores.{repair_due}
use Rattle.store_trial.proofs.write.Given as goal

abbrev pub invariant-loop-revision : goal.invariant-loop-revision
invariant-loop-revision g l = record {
  ready : repair_due l.opened.store ≡ false;
}
