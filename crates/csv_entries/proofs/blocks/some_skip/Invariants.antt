use Rattle.std.proofs.Common.{◌≡◌, drop, map}
use Rattle.std.specs.List.{list_any}
use Rattle.csv_entries.specs.Blocks.{actions_in, is_skip}
use Rattle.csv_entries.proofs.blocks.some_skip.Given as goal

abbrev pub invariant-loop-i : goal.invariant-loop-i
invariant-loop-i l = list_any is_skip (actions_in (map (λ b. b.now) l.blocks)) ≡ list_any is_skip (actions_in (map (λ b. b.now) (drop l.i l.blocks)))
