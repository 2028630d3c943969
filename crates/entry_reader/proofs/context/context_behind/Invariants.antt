use Rattle.std.proofs.Common.{◌≡◌, take}
use Rattle.entry_reader.specs.Contexts.{context_of, items_at}
use Rattle.entry_reader.proofs.context.context_behind.Given as goal

abbrev pub invariant-loop-placed : goal.invariant-loop-placed
invariant-loop-placed l = l.context ≡ context_of l.fn.year (items_at (take l.placed-index l.items))
