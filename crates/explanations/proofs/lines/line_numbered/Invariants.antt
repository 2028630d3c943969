use Rattle.std.proofs.Common.{◌≡◌, length}
use Rattle.entry_reader.specs.Lines.{contents_of}
use Rattle.explanations.specs.Explained.{numbered}
use Rattle.explanations.proofs.lines.line_numbered.Given as goal

abbrev pub invariant-loop-rest : goal.invariant-loop-rest
invariant-loop-rest l = numbered l.number (contents_of l.text) ≡ numbered l.left (contents_of l.rest)

abbrev pub decreases-loop-rest : goal.decreases-loop-rest
decreases-loop-rest l = length l.rest
