use Rattle.std.proofs.Common.{List, Option, OnSome, map, subst}
use Rattle.report_cells.specs.Report.{seen}
use Rattle.report_table.specs.Cells.{Cell}
use Rattle.balance_rows.specs.Fitting.{Fit}
use Rattle.balance_rows.specs.Sums.{entries_of}
use Rattle.balance_layouts.specs.TableRows.{seen_totals}
use Rattle.budget_layout.proofs.body.push_totals.Goals as goal

pub push_shown-requires-clause-fits : goal.push_shown-requires-clause-fits
push_shown-requires-clause-fits c = λ asked.
    subst (λ (goals : Option (List Cell)). OnSome (seen_totals goals) (Fit (entries_of (map seen c.args.totals)))) c.in-Some.is (c.requires.fits asked)
