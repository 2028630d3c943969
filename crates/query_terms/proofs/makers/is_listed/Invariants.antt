use Rattle.std.proofs.Common.{◌≡◌, drop}
use Rattle.std.specs.List.{list_any}
use Rattle.std.specs.Str.{bytes_eq}
use Rattle.query_terms.proofs.makers.is_listed.Given as goal

abbrev pub invariant-loop-other : goal.invariant-loop-other
invariant-loop-other l = list_any (λ p. bytes_eq p l.pattern) l.patterns ≡ list_any (λ p. bytes_eq p l.pattern) (drop l.other-index l.patterns)
