use Rattle.std.proofs.Common.{◌≡◌, ◌++◌}
use Rattle.kept_books.proofs.gathering.copied.Given as goal

abbrev pub invariant-loop-key : goal.invariant-loop-key
invariant-loop-key l = l.symbols.items ++ l.key-iterator ≡ l.found.keys
