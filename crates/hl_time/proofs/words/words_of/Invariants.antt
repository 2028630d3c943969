use Rattle.std.proofs.Common.{◌≡◌, ◌-◌, ◌≤◌, ◌++◌, length, take}
use Rattle.hl_time.specs.Words.{words}
use Rattle.hl_time.proofs.words.words_of.Given as goal

abbrev pub invariant-loop-i : goal.invariant-loop-i
invariant-loop-i l =
    record {
      size : length l.words ≡ 10;
      within : l.at ≤ length l.text;
      same : take l.i l.words ++ words (10 - l.i) l.text l.at ≡ words 10 l.text 0;
    }
