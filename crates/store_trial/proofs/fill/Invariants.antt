use Rattle.std.proofs.Common.{◌≡◌, false}
use Rattle.text_store.specs.Stores.{repair_due}
use Rattle.store_trial.proofs.fill.Given as goal

abbrev pub invariant-loop-number : goal.invariant-loop-number
invariant-loop-number g l = record {
  ready : repair_due l.opened.store ≡ false;
}
