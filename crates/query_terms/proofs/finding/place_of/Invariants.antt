use Rattle.std.proofs.Common.{◌≡◌, drop}
use Rattle.query_terms.specs.Finders.{all_known}
use Rattle.query_terms.specs.Patterns.{re_of}
use Rattle.query_terms.proofs.finding.place_of.Given as goal

abbrev pub invariant-loop-i : goal.invariant-loop-i
invariant-loop-i l = re_of (all_known l.sought) l.source ≡ re_of (all_known (drop l.i l.sought)) l.source
