use Rattle.std.proofs.Common.{◌≡◌, length}
use Rattle.std.specs.Str.{IsUtf8}
use Rattle.std.specs.Str.Iter.{chars_rest}
use Rattle.query_terms.specs.Patterns.{folded, occurs}
use Rattle.query_terms.proofs.folding.occurs_in.Given as goal

abbrev pub invariant-loop-rest : goal.invariant-loop-rest
invariant-loop-rest l = record {
  same : occurs (folded l.word) (folded l.text) ≡ occurs (folded l.word) (folded (chars_rest l.rest));
  text : IsUtf8 (chars_rest l.rest);
}

abbrev pub decreases-loop-rest : goal.decreases-loop-rest
decreases-loop-rest l = length (chars_rest l.rest)
