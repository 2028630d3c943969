use Rattle.std.proofs.Common.{◌≡◌, ◌+◌, ◌≤◌, length}
use Rattle.entry_reader.specs.Lines.{contents_of}
use Rattle.time_logs.specs.DotSteps.{after_content, dots_of, finished}
use Rattle.time_logs.specs.Faults.{◌>>=◌}
use Rattle.time_logs.specs.Timedot.{timedot}
use Rattle.time_logs.specs.Walks.{walk}
use Rattle.time_logs.proofs.timedot.read_timedot.Given as goal

abbrev pub invariant-loop-rest : goal.invariant-loop-rest
invariant-loop-rest l = record {
  so_far : (walk after_content (dots_of l.dots) l.line (contents_of l.rest) >>= finished) ≡ timedot (contents_of l.text);
  room : l.line + length l.rest ≤ length l.text + 1;
}

abbrev pub decreases-loop-rest : goal.decreases-loop-rest
decreases-loop-rest l = length l.rest
