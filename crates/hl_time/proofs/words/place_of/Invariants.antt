use Rattle.std.proofs.Common.{◌≡◌, ◌≤◌, length}
use Rattle.hl_time.specs.Words.{place_of}
use Rattle.hl_time.proofs.words.place_of.Given as goal

abbrev pub invariant-loop-left : goal.invariant-loop-left
invariant-loop-left l =
    record {
      within : l.at ≤ length l.text;
      same : place_of l.left l.text l.at ≡ place_of l.word l.text 0;
    }

abbrev pub decreases-loop-left : goal.decreases-loop-left
decreases-loop-left l = l.left
