use Rattle.std.proofs.Common.{◌≡◌, ◌++◌, true, length}
use Rattle.std.specs.Str.{is_utf8}
use Rattle.directive_reader.specs.QueryWords.{query_words}
use Rattle.directive_reader.proofs.query_words.read_query.Given as goal

abbrev pub invariant-loop-rest : goal.invariant-loop-rest
invariant-loop-rest l = record {
  so_far : l.words.items ++ query_words l.rest ≡ query_words l.text;
  utf8 : is_utf8 l.rest ≡ true;
}

abbrev pub decreases-loop-rest : goal.decreases-loop-rest
decreases-loop-rest l = length l.rest
