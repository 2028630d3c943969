use Rattle.std.proofs.Common.{◌≡◌, take}
use Rattle.csv_rules.specs.References.{unknown_in}
use Rattle.csv_rules.proofs.references.unknown_in.Given as goal

abbrev pub invariant-loop-reference : goal.invariant-loop-reference
invariant-loop-reference l = l.found.items ≡ unknown_in l.names (take l.reference-index l.references)
