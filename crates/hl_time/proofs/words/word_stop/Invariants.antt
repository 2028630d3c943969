use Rattle.std.proofs.Common.{◌≡◌, ◌+◌, ◌-◌, ◌≤◌, length, drop}
use Rattle.hl_time.specs.Words.{run}
use Rattle.hl_time.proofs.words.word_stop.Given as goal

abbrev pub invariant-loop-stop : goal.invariant-loop-stop
invariant-loop-stop l =
    record {
      order : l.start ≤ l.stop;
      within : l.stop ≤ length l.text;
      word : l.stop + run (drop l.stop l.text) ≡ l.start + run (drop l.start l.text);
    }

abbrev pub decreases-loop-stop : goal.decreases-loop-stop
decreases-loop-stop l = length l.text - l.stop
