use Rattle.std.proofs.Common.{◌≡◌, true, length}
use Rattle.std.specs.Str.{is_utf8}
use Rattle.std.specs.String.{string_bytes}
use Rattle.entry_reader.specs.Comments.{comments_in, comment_of}
use Rattle.entry_reader.specs.Lines.{contents_of}
use Rattle.entry_reader.proofs.Remarks.{joined_on}
use Rattle.entry_reader.proofs.comment.joined_comment.Given as goal

abbrev pub invariant-loop-text : goal.invariant-loop-text
invariant-loop-text l = record {
  so_far : joined_on (string_bytes l.comment) (comments_in (contents_of l.rest)) ≡ comment_of l.own (comments_in (contents_of l.after));
  utf8 : is_utf8 l.rest ≡ true;
}

abbrev pub decreases-loop-text : goal.decreases-loop-text
decreases-loop-text l = length (contents_of l.rest)
