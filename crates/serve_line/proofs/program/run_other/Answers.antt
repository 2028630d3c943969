use Rattle.std.proofs.Common.{refl}
use Rattle.serve_line.proofs.program.run_other.Goals as goal

pub returns : goal.returns
returns g c = record {
  statuses = c.run_waiting.ensures.statuses;
  runs = c.run_waiting.ensures.runs;
  sound = c.run_waiting.ensures.sound;
  complete = c.run_waiting.ensures.complete;
  stored = c.run_waiting.ensures.stored;
  house = refl;
}
