use Rattle.std.proofs.Common.{◌≡◌, ◌≤◌, length, map, take}
use Rattle.csv_entries.proofs.Chosen.{in_blocks}
use Rattle.csv_entries.proofs.blocks.last_block.Given as goal

abbrev pub invariant-loop-left : goal.invariant-loop-left
invariant-loop-left l = record {
  within : l.left ≤ length l.blocks;
  so_far : in_blocks l.field (map (λ b. b.now) l.blocks) ≡ in_blocks l.field (map (λ b. b.now) (take l.left l.blocks));
}

abbrev pub decreases-loop-left : goal.decreases-loop-left
decreases-loop-left l = l.left
