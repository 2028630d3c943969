use Rattle.std.proofs.Common.{◌≡◌, ◌++◌, ◌∷◌, [], take}
use Rattle.std.specs.List.{flat_map}
use Rattle.hl_base.specs.Ascii.{line_feed}
use Rattle.report_table.specs.Tables.{right_aligned}
use Rattle.balance_layouts.proofs.lines.push_lines.Given as goal

abbrev pub invariant-loop-amount : goal.invariant-loop-amount
invariant-loop-amount l =
    l.out.items ≡ l.initial.out.items ++ flat_map (λ text. right_aligned l.columns text ++ (line_feed ∷ [])) (take l.amount-index l.amounts)
