use Rattle.std.proofs.Common.{◌≡◌, take}
use Rattle.statements.specs.Turned.{kept_shown}
use Rattle.statements.proofs.turning.kept_copy.Given as goal

abbrev pub invariant-loop-symbol : goal.invariant-loop-symbol
invariant-loop-symbol l = l.copy ≡ kept_shown l.turn (take l.symbol-index l.entries)
