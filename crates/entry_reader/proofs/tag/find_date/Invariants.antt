use Rattle.std.proofs.Common.{◌≡◌, length}
use Rattle.entry_reader.specs.Comments.{date_value}
use Rattle.entry_reader.proofs.tag.find_date.Given as goal

abbrev pub invariant-loop-rest : goal.invariant-loop-rest
invariant-loop-rest l = date_value l.rest ≡ date_value l.text

abbrev pub decreases-loop-rest : goal.decreases-loop-rest
decreases-loop-rest l = length l.rest
