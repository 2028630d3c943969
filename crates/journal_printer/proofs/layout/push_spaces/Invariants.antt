use Rattle.std.proofs.Common.{◌≡◌, ◌++◌, replicate}
use Rattle.journal_printer.proofs.layout.push_spaces.Given as goal

abbrev pub invariant-loop-pushed : goal.invariant-loop-pushed
invariant-loop-pushed l = l.out.items ≡ l.initial.out.items ++ replicate l._pushed 32
