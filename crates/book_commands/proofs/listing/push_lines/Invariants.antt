use Rattle.std.proofs.Common.{◌≡◌, ◌+◌, ◌++◌, drop}
use Rattle.book_commands.specs.Listed.{lines_from}
use Rattle.book_commands.proofs.listing.push_lines.Given as goal

abbrev pub invariant-loop-placed : goal.invariant-loop-placed
invariant-loop-placed l = record {
  so_far : l.fn.out.items ++ lines_from l.text 1 l.items ≡ l.out.items ++ lines_from l.text l.number (drop l.placed-index l.items);
  counted : l.number ≡ l.placed-index + 1;
}
