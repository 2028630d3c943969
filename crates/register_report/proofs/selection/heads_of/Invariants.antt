use Rattle.std.proofs.Common.{◌≡◌, map, take}
use Rattle.register_report.specs.Selected.{head_of}
use Rattle.register_report.proofs.selection.heads_of.Given as goal

abbrev pub invariant-loop-entry : goal.invariant-loop-entry
invariant-loop-entry l = l.heads.items ≡ map head_of (take l.entry-index l.entries)
