use Rattle.std.proofs.Common.{◌≡◌, drop}
use Rattle.query.specs.Asking.{all_others, holds}
use Rattle.query_terms.specs.Finders.{known_in}
use Rattle.query.specs.OwnLetters.{own_in}
use Rattle.query.proofs.matching.walk_others.Given as goal

abbrev pub invariant-loop-term : goal.invariant-loop-term
invariant-loop-term l = record {
  so_far : all_others (holds (known_in l.fn.finder) (own_in l.types) l.asked) l.terms ≡ all_others (holds (known_in l.fn.finder) (own_in l.types) l.asked) (drop l.term-index l.terms);
  same : known_in l.finder ≡ known_in l.fn.finder;
}
