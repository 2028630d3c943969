use Rattle.std.proofs.Common.{◌≡◌, drop}
use Rattle.std.specs.List.{find}
use Rattle.book_care.specs.Uses.{is_lacking, uses_of}
use Rattle.book_care.proofs.uses.first_lacking.Given as goal

abbrev pub invariant-loop-txn : goal.invariant-loop-txn
invariant-loop-txn l =
    find (is_lacking l.declared) (uses_of l.declared.check l.txns) ≡ find (is_lacking l.declared) (uses_of l.declared.check (drop l.txn-index l.txns))
