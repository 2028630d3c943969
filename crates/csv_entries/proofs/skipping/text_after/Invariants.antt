use Rattle.std.proofs.Common.{◌≡◌, length}
use Rattle.csv_entries.specs.Records.{text_after}
use Rattle.csv_entries.proofs.skipping.text_after.Given as goal

abbrev pub invariant-loop-left : goal.invariant-loop-left
invariant-loop-left l = text_after l.fn.count l.fn.text ≡ text_after l.left l.rest

abbrev pub decreases-loop-left : goal.decreases-loop-left
decreases-loop-left l = length l.rest
