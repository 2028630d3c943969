use Rattle.std.proofs.Common.{sym, ◌∙◌, arith}
use Rattle.index_cells.proofs.Remaining.{all_replaced, not_replaced, replaced_more, too_few}
use Rattle.index_cells.proofs.staying.are_replaced.Goals as goal

pub returns-then-few : goal.returns-then-few
returns-then-few c = sym (too_few c.args.gone.now c.args.more.now (omega arith))

pub loop-at-preserved : goal.loop-at-preserved
loop-at-preserved c =
    replaced_more c.args.gone.now c.args.more.now c.loop-at.at c.index-gone-at.result c.index-more-at.result (omega arith) (omega arith) c.index-gone-at.is c.index-more-at.is
    c.loop-at.invariant (sym c.is_replaced-same.ensures ∙ c.if-not-same.false)

pub returns-then-not-same : goal.returns-then-not-same
returns-then-not-same c =
    sym (not_replaced c.args.gone.now c.args.more.now c.loop-at.at c.index-gone-at.result c.index-more-at.result (omega arith) (omega arith) c.index-gone-at.is c.index-more-at.is
    (sym c.is_replaced-same.ensures ∙ c.if-not-same.true))

pub returns : goal.returns
returns c = sym (all_replaced c.args.gone.now c.args.more.now c.loop-at.at (omega arith) c.loop-at.invariant)
