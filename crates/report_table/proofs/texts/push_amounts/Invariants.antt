use Rattle.std.proofs.Common.{◌≡◌, ◌++◌, take}
use Rattle.std.specs.List.{flat_map}
use Rattle.std.specs.String.{string_bytes}
use Rattle.book.specs.Styles.{style_in}
use Rattle.report_table.specs.Cells.{next_amount}
use Rattle.report_table.proofs.texts.push_amounts.Given as goal

abbrev pub invariant-loop-sum : goal.invariant-loop-sum
invariant-loop-sum l =
    string_bytes l.out ≡ string_bytes l.initial.out ++ flat_map (next_amount (style_in l.styles)) (take l.sum-index l.sums)
