use Rattle.std.proofs.Common.{◌≡◌, length}
use Rattle.book_commands.specs.Works.{first_kept}
use Rattle.book_commands.proofs.strict_checks.passes.Given as goal

abbrev pub invariant-loop-check : goal.invariant-loop-check
invariant-loop-check l =
    first_kept l.checks l.checked.declarations l.checked.book.txns ≡ first_kept l.left l.checked.declarations l.checked.book.txns

abbrev pub decreases-loop-check : goal.decreases-loop-check
decreases-loop-check l = length l.left
