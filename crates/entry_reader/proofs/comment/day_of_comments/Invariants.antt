use Rattle.std.proofs.Common.{◌≡◌, ◌+◌, ◌≤◌, ◌∷◌, length}
use Rattle.entry_reader.specs.Comments.{comments_in, day_in}
use Rattle.entry_reader.specs.Lines.{contents_of}
use Rattle.entry_reader.proofs.comment.day_of_comments.Given as goal

abbrev pub invariant-loop-text : goal.invariant-loop-text
invariant-loop-text l = record {
  so_far : day_in l.year (l.here + 1) (comments_in (contents_of l.rest)) ≡ day_in l.year l.line (l.own ∷ comments_in (contents_of l.after));
  room : l.here + length (contents_of l.rest) ≤ l.line + length (contents_of l.after);
}

abbrev pub decreases-loop-text : goal.decreases-loop-text
decreases-loop-text l = length (contents_of l.rest)
