use Rattle.std.proofs.Common.{◌≡◌, map}
use Rattle.std.specs.List.{flat_map, range_with_len}
use Rattle.book.specs.Styles.{style_in}
use Rattle.report_cells.specs.Report.{seen}
use Rattle.balance_layouts.specs.Averages.{least_with}
use Rattle.budget_layout.proofs.Lining.{out_at, text_at}
use Rattle.budget_layout.proofs.beside.beside.Given as goal

abbrev pub invariant-loop-at : goal.invariant-loop-at
invariant-loop-at l = record {
  texts : l.texts.items ≡ map (text_at (style_in l.styles) (map seen l.actual) (map seen l.goals)) (range_with_len 0 l.at);
  least : l.least ≡ least_with l.initial.least (flat_map (out_at (style_in l.styles) (map seen l.actual) (map seen l.goals)) (range_with_len 0 l.at));
}
