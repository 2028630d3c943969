use Rattle.std.proofs.Common.{◌≡◌, length}
use Rattle.entry_reader.specs.Contexts.{latest_mark}
use Rattle.entry_reader.proofs.context.latest_mark.Given as goal

abbrev pub invariant-loop-latest : goal.invariant-loop-latest
invariant-loop-latest l = latest_mark l.rest l.symbol ≡ latest_mark l.marks l.symbol

abbrev pub decreases-loop-latest : goal.decreases-loop-latest
decreases-loop-latest l = length l.rest
