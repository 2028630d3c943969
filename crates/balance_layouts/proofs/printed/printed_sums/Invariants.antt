use Rattle.std.proofs.Common.{◌≡◌, take}
use Rattle.book.specs.Styles.{style_in}
use Rattle.report_cells.specs.Report.{seen}
use Rattle.balance_layouts.specs.Shown.{texts_of}
use Rattle.balance_layouts.proofs.printed.printed_sums.Given as goal

abbrev pub invariant-loop-symbol : goal.invariant-loop-symbol
invariant-loop-symbol l = l.amounts.items ≡ texts_of (style_in l.styles) (seen (take l.symbol-index l.sums))
