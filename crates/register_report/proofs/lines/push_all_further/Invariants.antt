use Rattle.std.proofs.Common.{◌≡◌, ◌++◌, take}
use Rattle.std.specs.List.{flat_map}
use Rattle.book.specs.Styles.{style_in}
use Rattle.register_report.specs.Summed.{kept_line}
use Rattle.register_report.proofs.lines.push_all_further.Given as goal

abbrev pub invariant-loop-sum : goal.invariant-loop-sum
invariant-loop-sum l = l.out.items ≡ l.initial.out.items ++ flat_map (kept_line (style_in l.styles)) (take l.sum-index l.sums)
