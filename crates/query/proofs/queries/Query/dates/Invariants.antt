use Rattle.std.proofs.Common.{◌≡◌, drop}
use Rattle.query.specs.Matching.{least, later, from_in, end_in}
use Rattle.query.proofs.queries.Query.dates.Given as goal

abbrev pub invariant-loop-term : goal.invariant-loop-term
invariant-loop-term l = record {
  from : from_in l.self.terms.items ≡ later l.from (from_in (drop l.term-index l.self.terms.items));
  end : end_in l.self.terms.items ≡ least l.end (end_in (drop l.term-index l.self.terms.items));
}
