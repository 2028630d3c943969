use Rattle.std.proofs.Common.{sym, ◌∙◌, arith}
use Rattle.index_cells.proofs.Merging.{all_more, all_whole, one_less}
use Rattle.index_cells.proofs.names.are_named.Goals as goal

pub loop-name-preserved : goal.loop-name-preserved
loop-name-preserved c =
    all_more c.args.names.now c.args.more.now c.loop-name.name-index c.name-item.result (omega arith) c.name-item.is c.loop-name.invariant
    (sym c.is_named-known.ensures ∙ c.if-not-known.false)

pub returns-then-not-known : goal.returns-then-not-known
returns-then-not-known c =
    sym (one_less c.args.names.now c.args.more.now c.loop-name.name-index c.name-item.result (omega arith) c.name-item.is (sym c.is_named-known.ensures ∙ c.if-not-known.true))

pub returns : goal.returns
returns c = sym (all_whole c.args.names.now c.args.more.now c.loop-name.name-index (omega arith) c.loop-name.invariant)
