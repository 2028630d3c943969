use Rattle.std.proofs.Common.{◌≡◌, ◌++◌, ◌∷◌, true, length}
use Rattle.std.specs.Str.{is_utf8}
use Rattle.entry_reader.specs.Comments.{comments_in, tags_in}
use Rattle.entry_reader.specs.Lines.{contents_of}
use Rattle.entry_reader.proofs.comment.tags_of.Given as goal

abbrev pub invariant-loop-text : goal.invariant-loop-text
invariant-loop-text l = record {
  so_far : l.tags.items ++ tags_in (comments_in (contents_of l.rest)) ≡ tags_in (l.own ∷ comments_in (contents_of l.after));
  utf8 : is_utf8 l.rest ≡ true;
}

abbrev pub decreases-loop-text : goal.decreases-loop-text
decreases-loop-text l = length (contents_of l.rest)
