use Rattle.std.proofs.Common.{◌≡◌, ◌+◌, ◌≤◌, ◌∷◌, true, length}
use Rattle.std.specs.Str.{is_utf8}
use Rattle.entry_reader.specs.Comments.{comments_in}
use Rattle.entry_reader.specs.Lines.{contents_of}
use Rattle.directive_reader.specs.AccountTypes.{letter_in}
use Rattle.directive_reader.proofs.account_type.read_letter.Given as goal

abbrev pub invariant-loop-rest : goal.invariant-loop-rest
invariant-loop-rest l = record {
  so_far : letter_in l.next (comments_in (contents_of l.rest)) ≡ letter_in l.fn.line (l.own ∷ comments_in (contents_of l.lines));
  room : l.next + length (contents_of l.rest) ≤ l.fn.line + 1 + length (contents_of l.lines);
  utf8 : is_utf8 l.rest ≡ true;
}

abbrev pub decreases-loop-rest : goal.decreases-loop-rest
decreases-loop-rest l = length l.rest
