use Rattle.std.proofs.Common.{◌≡◌, map, string_bytes}
use Rattle.process_run.proofs.run.but_the_first.Given as goal

abbrev pub invariant-loop-word : goal.invariant-loop-word
invariant-loop-word l = record {
  can : (goal.iterator-loop-word).can_next l.word-iterator;
  finite : (goal.iterator-loop-word).is_finite l.word-iterator;
  so_far : l.words.items ≡ map string_bytes l.yielded;
}
