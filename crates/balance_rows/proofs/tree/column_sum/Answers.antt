use Rattle.std.proofs.Common.{◌<◌, [], length, arith}
use Rattle.balance_rows.specs.Kept.{kept_at}
use Rattle.balance_rows.proofs.KeptLaws.{mapped_added, mapped_fits}
use Rattle.balance_rows.proofs.tree.column_sum.Goals as goal

pub add_column-requires : goal.add_column-requires
add_column-requires c =
    let within : c.loop-given.given-index < length c.args.rows.now = omega arith in
    mapped_fits (kept_at c.args.at) [] c.loop-given.sums c.args.rows.now c.loop-given.given-index c.given-item.result within c.given-item.is c.loop-given.invariant

pub loop-given-preserved : goal.loop-given-preserved
loop-given-preserved c =
    let within : c.loop-given.given-index < length c.args.rows.now = omega arith in
    mapped_added (kept_at c.args.at) [] c.loop-given.sums c.args.rows.now c.loop-given.given-index c.given-item.result within c.given-item.is
    c.add_column.new.sums c.in_ok-add_column.ensures c.loop-given.invariant
