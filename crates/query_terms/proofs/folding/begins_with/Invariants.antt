use Rattle.std.proofs.Common.{◌≡◌, nat_eq}
use Rattle.std.specs.List.{starts_with}
use Rattle.std.specs.Str.{IsUtf8}
use Rattle.std.specs.Str.Iter.{chars_rest}
use Rattle.query_terms.specs.Patterns.{folded}
use Rattle.query_terms.proofs.folding.begins_with.Given as goal

abbrev pub invariant-loop-c : goal.invariant-loop-c
invariant-loop-c l = record {
  same : starts_with nat_eq (folded l.text) (folded l.word) ≡ starts_with nat_eq (folded (chars_rest l.rest)) (folded (chars_rest l.c-iterator));
  text : IsUtf8 (chars_rest l.rest);
  word : IsUtf8 (chars_rest l.c-iterator);
}
