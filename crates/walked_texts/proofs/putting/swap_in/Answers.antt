use Rattle.std.proofs.Common.{arith}
use Rattle.walked_texts.proofs.Exchanged.{in_begins, in_done, in_inside, in_step}
use Rattle.walked_texts.proofs.putting.swap_in.Goals as goal

pub loop-at-init : goal.loop-at-init
loop-at-init c = in_begins c.args.book.now.items c.args.forms.now.items c.requires

pub index_mut-requires : goal.index_mut-requires
index_mut-requires c = omega arith

pub swap_one-requires : goal.swap_one-requires
swap_one-requires c = in_inside c.loop-at.at c.args.book.now.items c.loop-at.book.items c.args.forms.now.items c.loop-at.forms.items c.index_mut.result.now c.loop-at.invariant (omega arith) c.index_mut.ensures.value

pub loop-at-preserved : goal.loop-at-preserved
loop-at-preserved c =
    in_step c.loop-at.at c.args.book.now.items c.loop-at.book.items c.swap_one.new.book.items c.args.forms.now.items c.loop-at.forms.items c.index_mut.result.now c.swap_one.new.form
    c.loop-at.invariant (omega arith) c.index_mut.ensures.value c.swap_one.ensures.book c.swap_one.ensures.spot

pub returns : goal.returns
returns c = in_done c.loop-at.at c.args.book.now.items c.loop-at.book.items c.args.forms.now.items c.loop-at.forms.items c.loop-at.invariant (omega arith)
