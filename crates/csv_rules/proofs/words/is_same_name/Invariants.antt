use Rattle.std.proofs.Common.{◌≡◌}
use Rattle.std.specs.Str.{bytes_eq, IsUtf8}
use Rattle.std.specs.Str.Iter.{chars_rest}
use Rattle.query_terms.specs.Patterns.{folded}
use Rattle.csv_rules.proofs.words.is_same_name.Given as goal

abbrev pub invariant-loop-c : goal.invariant-loop-c
invariant-loop-c l = record {
  same : bytes_eq (folded l.other) (folded l.name) ≡ bytes_eq (folded (chars_rest l.c-iterator)) (folded (chars_rest l.rest));
  text : IsUtf8 (chars_rest l.rest);
  word : IsUtf8 (chars_rest l.c-iterator);
}
