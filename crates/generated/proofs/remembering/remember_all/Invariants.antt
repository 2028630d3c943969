use Rattle.generated.specs.Asking.{AllAsk, all_asked}
use Rattle.generated.specs.Remembering.{Remembers}
use Rattle.generated.proofs.remembering.remember_all.Given as goal

abbrev pub invariant-loop-txn : goal.invariant-loop-txn
invariant-loop-txn l = record {
  kept : Remembers (all_asked l.fn.askers) l.kept;
  ask : AllAsk l.fn.askers l.askers;
}
