use Rattle.std.proofs.Common.{map, take}
use Rattle.report_cells.specs.Gathered.{Adds}
use Rattle.report_takings.specs.Asking.{question_of}
use Rattle.report_takings.specs.Takings.{taken}
use Rattle.report_takings.specs.declared.entries.Part.TheVariants.{Named}
use Rattle.report_takings.proofs.gathering.gather_named.Given as goal

abbrev pub invariant-loop-entry : goal.invariant-loop-entry
invariant-loop-entry l = Adds l.initial.gatherer (map (taken Named (question_of l.scope)) (take l.entry-index l.entries)) l.gatherer
