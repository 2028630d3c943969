use Rattle.std.proofs.Common.{◌≡◌, drop}
use Rattle.query.specs.Asking.{one_in, one_after, holds}
use Rattle.query_terms.specs.Finders.{known_in}
use Rattle.query.specs.OwnLetters.{own_in}
use Rattle.query.proofs.matching.walk_group.Given as goal

abbrev pub invariant-loop-term : goal.invariant-loop-term
invariant-loop-term l = record {
  so_far : one_in l.group (holds (known_in l.fn.finder) (own_in l.types) l.asked) l.terms ≡ one_after l.none l.group (holds (known_in l.fn.finder) (own_in l.types) l.asked) (drop l.term-index l.terms);
  same : known_in l.finder ≡ known_in l.fn.finder;
}
