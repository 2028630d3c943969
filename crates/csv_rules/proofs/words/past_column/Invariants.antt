use Rattle.std.proofs.Common.{◌≡◌, length}
use Rattle.std.specs.Str.{IsUtf8}
use Rattle.std.specs.Str.Iter.{chars_rest}
use Rattle.csv_rules.specs.Words.{after_column_name}
use Rattle.csv_rules.proofs.words.past_column.Given as goal

abbrev pub invariant-loop-c : goal.invariant-loop-c
invariant-loop-c l = record {
  same : after_column_name l.text ≡ after_column_name (chars_rest l.rest);
  text : IsUtf8 (chars_rest l.rest);
}

abbrev pub decreases-loop-c : goal.decreases-loop-c
decreases-loop-c l = length (chars_rest l.rest)
