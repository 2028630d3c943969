use Rattle.std.proofs.Common.{◌≡◌, drop, take}
use Rattle.std.specs.List.{flat_map}
use Rattle.book.specs.Styles.{style_in}
use Rattle.report_cells.specs.Report.{seen}
use Rattle.balance_layouts.specs.Averages.{least_with, symbols_out}
use Rattle.balance_layouts.specs.KeptAverages.{kept_average}
use Rattle.balance_layouts.proofs.averaging.averages.Given as goal

abbrev pub invariant-loop-symbol : goal.invariant-loop-symbol
invariant-loop-symbol l = record {
  made : l.made ≡ flat_map (kept_average l.columns (style_in l.styles)) (take l.symbol-index l.entries);
  least : least_with l.least (symbols_out l.columns (style_in l.styles) (seen (drop l.symbol-index l.entries)))
      ≡ least_with l.initial.least (symbols_out l.columns (style_in l.styles) (seen l.entries));
}
