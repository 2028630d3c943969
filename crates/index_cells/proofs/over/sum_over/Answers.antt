use Rattle.std.proofs.Common.{arith}
use Rattle.live_index.specs.Standing.{standing}
use Rattle.index_cells.proofs.Overs.{can_take, is_taken, is_none}
use Rattle.index_cells.proofs.over.sum_over.Goals as goal

pub difference-requires : goal.difference-requires
difference-requires g c =
    can_take (standing c.args.index.now) c.args.account.now c.args.symbol.now c.args.days c.upto-whole.result c.upto-earlier.result (omega arith) c.upto-whole.ensures.sum c.upto-earlier.ensures.sum c.requires.fits

pub returns-then-days-clause-sum : goal.returns-then-days-clause-sum
returns-then-days-clause-sum g c =
    is_none (standing c.args.index.now) c.args.account.now c.args.symbol.now c.args.days c.zero.result (omega arith) c.zero.ensures

pub returns-clause-sum : goal.returns-clause-sum
returns-clause-sum g c =
    is_taken (standing c.args.index.now) c.args.account.now c.args.symbol.now c.args.days c.upto-whole.result c.upto-earlier.result (omega arith) c.upto-whole.ensures.sum c.upto-earlier.ensures.sum
    c.difference.result c.difference.ensures.value c.difference.ensures.places
