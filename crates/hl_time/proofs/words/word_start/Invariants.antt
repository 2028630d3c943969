use Rattle.std.proofs.Common.{◌≡◌, ◌+◌, ◌-◌, ◌≤◌, length, drop}
use Rattle.hl_time.specs.Words.{blanks}
use Rattle.hl_time.proofs.words.word_start.Given as goal

abbrev pub invariant-loop-start : goal.invariant-loop-start
invariant-loop-start l =
    record {
      order : l.at ≤ l.start;
      within : l.start ≤ length l.text;
      blank : l.start + blanks (drop l.start l.text) ≡ l.at + blanks (drop l.at l.text);
    }

abbrev pub decreases-loop-start : goal.decreases-loop-start
decreases-loop-start l = length l.text - l.start
