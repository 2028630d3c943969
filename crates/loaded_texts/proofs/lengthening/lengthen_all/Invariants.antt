use Rattle.std.proofs.Common.{◌≡◌, ◌++◌, map, take, drop}
use Rattle.loaded_texts.specs.Growing.{lengthened}
use Rattle.loaded_texts.proofs.lengthening.lengthen_all.Given as goal

abbrev pub invariant-loop-placed : goal.invariant-loop-placed
invariant-loop-placed l = l.items ≡ map (lengthened l.more) (take l.placed-index l.fn.items) ++ drop l.placed-index l.fn.items
