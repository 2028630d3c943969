use Rattle.std.proofs.Common.{◌≡◌, ◌++◌, map, take}
use Rattle.entry_balance.specs.Entry.{found_posting}
use Rattle.entry_balance.proofs.fill.add_found.Given as goal

abbrev pub invariant-loop-value : goal.invariant-loop-value
invariant-loop-value l = l.filled.items ≡ l.initial.filled.items ++ map (found_posting l.posting) (take l.value-index l.found)
