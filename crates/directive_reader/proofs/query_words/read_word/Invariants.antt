use Rattle.std.proofs.Common.{◌≡◌, ◌≤◌, true, false, length}
use Rattle.std.specs.Str.{is_utf8}
use Rattle.std.specs.String.{string_bytes}
use Rattle.directive_reader.specs.QueryWords.{words_from, joins}
use Rattle.directive_reader.proofs.query_words.read_word.Given as goal

abbrev pub invariant-loop-word : goal.invariant-loop-word
invariant-loop-word l = record {
  so_far : joins (string_bytes l.word) (words_from false l.rest) ≡ words_from false l.text;
  shorter : length l.rest ≤ length l.text;
  utf8 : is_utf8 l.rest ≡ true;
}

abbrev pub decreases-loop-word : goal.decreases-loop-word
decreases-loop-word l = length l.rest
