use Rattle.std.proofs.Common.{rules}
use Rattle.budget_layout.proofs.rows.in_order.Goals as goal

pub sorted_rows-requires : goal.sorted_rows-requires
sorted_rows-requires c = λ changes. c.requires (search rules) changes
