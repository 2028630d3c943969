use Rattle.std.proofs.Common.{◌≡◌, map, take}
use Rattle.generated.specs.Asking.{AllAnswer, all_asked}
use Rattle.generated.specs.Queries.{asked_by}
use Rattle.generated.proofs.asking.askers_of.Given as goal

abbrev pub invariant-loop-read : goal.invariant-loop-read
invariant-loop-read l = record {
  asked : all_asked l.askers.items ≡ map asked_by (take l.read-index l.reads);
  answers : AllAnswer l.askers.items;
}
