use Rattle.std.proofs.Common.{◌≡◌, ◌++◌, drop}
use Rattle.std.specs.String.{string_bytes}
use Rattle.entry_reader.specs.Contexts.{with_applied}
use Rattle.entry_reader.proofs.naming.behind_applied.Given as goal

abbrev pub invariant-loop-outer : goal.invariant-loop-outer
invariant-loop-outer l = string_bytes l.account ++ with_applied (drop l.outer-index l.applied) l.name ≡ with_applied l.applied l.name
