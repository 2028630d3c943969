use Rattle.std.proofs.Common.{◌≡◌, ◌+◌, ◌≤◌, length}
use Rattle.entry_reader.specs.Lines.{contents_of}
use Rattle.directive_reader.specs.Endings.{comments_only}
use Rattle.directive_reader.proofs.ending.check_comments.Given as goal

abbrev pub invariant-loop-rest : goal.invariant-loop-rest
invariant-loop-rest l = record {
  so_far : comments_only l.next (contents_of l.rest) ≡ comments_only l.fn.line (contents_of l.after);
  room : l.next + length (contents_of l.rest) ≤ l.fn.line + length (contents_of l.after);
}

abbrev pub decreases-loop-rest : goal.decreases-loop-rest
decreases-loop-rest l = length l.rest
