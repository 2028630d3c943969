use Rattle.std.proofs.Common.{◌≡◌, length}
use Rattle.entry_reader.specs.Contexts.{renamed}
use Rattle.entry_reader.proofs.naming.renamed_by_each.Given as goal

abbrev pub invariant-loop-newest : goal.invariant-loop-newest
invariant-loop-newest l = renamed l.rest l.account ≡ renamed l.aliases l.fn.name

abbrev pub decreases-loop-newest : goal.decreases-loop-newest
decreases-loop-newest l = length l.rest
