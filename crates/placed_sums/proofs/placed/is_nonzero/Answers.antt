use Rattle.hl_num.specs.Decimal.{units_of}
use Rattle.placed_sums.proofs.Known.{nonzero_is}
use Rattle.placed_sums.proofs.placed.is_nonzero.Goals as goal

pub returns : goal.returns
returns c = nonzero_is c.is_zero.result (units_of c.args.sum) c.is_zero.ensures.value.0 c.is_zero.ensures.value.1
