use Rattle.std.proofs.Common.{◌-◌, arith}
use Rattle.walked_edits.proofs.Exchanging.{back_begins, back_done, back_step, got_inside}
use Rattle.walked_edits.proofs.swapping.swap_back.Goals as goal

pub index_mut-requires : goal.index_mut-requires
index_mut-requires c = omega arith

pub swap_one-requires : goal.swap_one-requires
swap_one-requires c =
    got_inside c.loop-at.book.items c.loop-at.forms.items (c.loop-at.at - 1) c.index_mut.result.now c.loop-at.invariant.inside
    (omega arith) c.index_mut.ensures.value

pub loop-at-init : goal.loop-at-init
loop-at-init c = back_begins c.len-at.result c.args.book.now.items c.args.forms.now.items (omega arith) c.requires

pub loop-at-preserved : goal.loop-at-preserved
loop-at-preserved c =
    back_step c.loop-at.at (c.loop-at.at - 1) c.args.book.now.items c.loop-at.book.items c.swap_one.new.book.items c.args.forms.now.items c.loop-at.forms.items c.index_mut.result.now c.swap_one.new.form
    c.loop-at.invariant (omega arith) c.index_mut.ensures.value c.swap_one.ensures.book c.swap_one.ensures.form c.swap_one.ensures.spot

pub returns-clause-back : goal.returns-clause-back
returns-clause-back c = (back_done c.loop-at.at c.args.book.now.items c.loop-at.book.items c.args.forms.now.items c.loop-at.forms.items c.loop-at.invariant (omega arith)).0

pub returns-clause-forth : goal.returns-clause-forth
returns-clause-forth c = (back_done c.loop-at.at c.args.book.now.items c.loop-at.book.items c.args.forms.now.items c.loop-at.forms.items c.loop-at.invariant (omega arith)).1

pub returns-clause-spots : goal.returns-clause-spots
returns-clause-spots c = c.loop-at.invariant.spots
