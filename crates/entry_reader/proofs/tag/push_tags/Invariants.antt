use Rattle.std.proofs.Common.{◌≡◌, ◌++◌, true, length}
use Rattle.std.specs.Str.{is_utf8}
use Rattle.entry_reader.specs.Tags.{tags_of}
use Rattle.entry_reader.proofs.tag.push_tags.Given as goal

abbrev pub invariant-loop-rest : goal.invariant-loop-rest
invariant-loop-rest l = record {
  so_far : l.tags.items ++ tags_of l.rest ≡ l.fn.tags.items ++ tags_of l.text;
  utf8 : is_utf8 l.rest ≡ true;
}

abbrev pub decreases-loop-rest : goal.decreases-loop-rest
decreases-loop-rest l = length l.rest
