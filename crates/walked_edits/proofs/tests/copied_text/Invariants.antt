use Rattle.std.proofs.Common.{◌≡◌, take}
use Rattle.walked_edits.proofs.tests.copied_text.Given as goal

abbrev pub invariant-loop-txn : goal.invariant-loop-txn
invariant-loop-txn l = l.copies.items ≡ take l.txn-index l.text
