use Rattle.std.proofs.Common.{List, [], map, sym, ap, subst, ◌∙◌}
use Rattle.report_cells.specs.Report.{row_seen, seen}
use Rattle.balance_rows.specs.Groups.{KeptCells, group_sums}
use Rattle.balance_rows.specs.Kept.{EachFits, all_entries, kept_at}
use Rattle.balance_rows.proofs.RootsLaws.{tree_totals}
use Rattle.balance_rows.proofs.TotalsLaws.{columns_add, totals_seen}
use Rattle.balance_rows.proofs.totals.totals_of.Goals as goal

pub sums_of-requires : goal.sums_of-requires
sums_of-requires c = λ at.
    subst (λ (cells : List KeptCells). EachFits [] (all_entries (map (kept_at at) cells))) (sym (c.as_slice.ensures ∙ c.in_ok-given.ensures))
    (columns_add c.args.rows.now c.requires at)

pub returns-clause-flat : goal.returns-clause-flat
returns-clause-flat c =
    ap (map seen) (c.in_ok-totals.ensures ∙ ap (group_sums c.args.columns) (c.as_slice.ensures ∙ c.in_ok-given.ensures))
    ∙ totals_seen c.args.rows.now c.requires c.args.columns

pub returns-clause-tree : goal.returns-clause-tree
returns-clause-tree c =
    ap (map seen) (c.in_ok-totals.ensures ∙ ap (group_sums c.args.columns) (c.as_slice.ensures ∙ c.in_ok-given.ensures))
    ∙ totals_seen c.args.rows.now c.requires c.args.columns ∙ sym (tree_totals c.args.columns (map row_seen c.args.rows.now))
