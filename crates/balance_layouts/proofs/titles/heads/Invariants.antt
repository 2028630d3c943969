use Rattle.std.proofs.Common.{◌≡◌, map, take}
use Rattle.balance_layouts.specs.Titles.{head_text}
use Rattle.balance_layouts.proofs.titles.heads.Given as goal

abbrev pub invariant-loop-column : goal.invariant-loop-column
invariant-loop-column l = l.heads.items ≡ map (head_text l.layout.basis) (take l.column-index l.columns)
