use Rattle.std.proofs.Common.{◌≡◌, ◌+◌, ◌≤◌, length}
use Rattle.entry_reader.specs.Lines.{contents_of}
use Rattle.time_logs.specs.ClockSteps.{after_content, finished, progress_of}
use Rattle.time_logs.specs.Faults.{◌>>=◌}
use Rattle.time_logs.specs.Sessions.{sessions_in}
use Rattle.time_logs.specs.Walks.{walk}
use Rattle.time_logs.proofs.sessions.sessions_of.Given as goal

abbrev pub invariant-loop-rest : goal.invariant-loop-rest
invariant-loop-rest l = record {
  so_far : (walk after_content (progress_of l.progress) l.line (contents_of l.rest) >>= finished) ≡ sessions_in (contents_of l.text);
  room : l.line + length l.rest ≤ length l.text + 1;
}

abbrev pub decreases-loop-rest : goal.decreases-loop-rest
decreases-loop-rest l = length l.rest
