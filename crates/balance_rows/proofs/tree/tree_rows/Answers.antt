use Rattle.std.proofs.Common.{map, sym, ap, subst, ◌∙◌}
use Rattle.report_cells.specs.Report.{row_seen}
use Rattle.balance_rows.specs.Groups.{ColumnsAdd, group_row}
use Rattle.balance_rows.proofs.TreesLaws.{groups_add, tree_is}
use Rattle.balance_rows.proofs.tree.tree_rows.Goals as goal

pub group_rows-requires : goal.group_rows-requires
group_rows-requires c = subst ColumnsAdd (sym (c.as_slice.ensures ∙ c.in_ok-groups.ensures)) (groups_add c.args.rows.now c.requires)

pub returns : goal.returns
returns c =
    ap (map row_seen) (c.in_ok-made.ensures ∙ ap (map (group_row c.args.columns)) (c.as_slice.ensures ∙ c.in_ok-groups.ensures))
    ∙ tree_is c.args.rows.now c.requires c.args.columns
