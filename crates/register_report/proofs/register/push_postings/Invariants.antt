use Rattle.std.proofs.Common.{◌++◌, None, drop}
use Rattle.std.specs.List.{zip}
use Rattle.book.specs.Styles.{style_in}
use Rattle.register_report.specs.Summed.{SumsFit, kept_lines}
use Rattle.register_report.proofs.Stepping.{Written}
use Rattle.register_report.proofs.register.push_postings.Given as goal

abbrev pub invariant-loop-at : goal.invariant-loop-at
invariant-loop-at l = record {
  written : Written (style_in l.styles) l.heads l.shown l.at l.sums l.last (l.initial.out.items ++ kept_lines (style_in l.styles) l.initial.sums None (zip l.heads l.shown)) l.out.items;
  fits : SumsFit l.sums (drop l.at l.shown);
}
