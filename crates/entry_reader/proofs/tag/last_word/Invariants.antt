use Rattle.std.proofs.Common.{◌≡◌, ℕ, ◌<◌, ◌≤◌, true, not, get_or, length}
use Rattle.hl_base.specs.Items.{is_white}
use Rattle.entry_reader.proofs.tag.last_word.Given as goal

abbrev pub invariant-loop-start : goal.invariant-loop-start
invariant-loop-start l = record {
  within : l.start ≤ length l.text;
  solid : (k : ℕ) → l.start ≤ k → k < length l.text → not (is_white (get_or l.text k 0)) ≡ true;
}

abbrev pub decreases-loop-start : goal.decreases-loop-start
decreases-loop-start l = l.start
