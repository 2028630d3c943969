use Rattle.std.proofs.Common.{◌≡◌, length}
use Rattle.generated.specs.Alone.{AreVerdicts}
use Rattle.generated.specs.Asking.{AllAsk, all_asked}
use Rattle.generated.proofs.remembering.verdicts_of.Given as goal

abbrev pub invariant-loop-asker : goal.invariant-loop-asker
invariant-loop-asker l = record {
  many : length l.known.items ≡ l.asker-index;
  verdicts : AreVerdicts l.posting.account (all_asked l.fn.askers) l.known.items;
  ask : AllAsk l.fn.askers l.askers;
}
