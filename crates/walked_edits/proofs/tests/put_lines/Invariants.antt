use Rattle.balancing.specs.Solves.{Solves}
use Rattle.placed_sums.specs.Accounts.{HasSymbols}
use Rattle.walked_edits.specs.Keeping.{IsKept}
use Rattle.walked_edits.proofs.tests.put_lines.Given as goal

abbrev pub invariant-loop-line : goal.invariant-loop-line
invariant-loop-line g l = (Solves l.told.text.items l.told.book.items × IsKept l.told.book.items l.told.kept) × HasSymbols l.symbols l.told.book.items
