use Rattle.std.proofs.Common.{arith}
use Rattle.hl_num.proofs.DecimalLemmas.{pow_ten_below}
use Rattle.report_cells.proofs.turnover.multiplied.Goals as goal

pub pow-requires : goal.pow-requires
pow-requires c = omega (arith, pow_ten_below c.from.result (omega arith))
