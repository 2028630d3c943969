use Rattle.std.proofs.Common.{◌-◌, set, refl, arith}
use Rattle.walked_edits.proofs.Exchanging.{got_inside, swapped_last}
use Rattle.walked_edits.proofs.swapping.swap_last.Goals as goal

pub index_mut-requires : goal.index_mut-requires
index_mut-requires c = omega arith

pub swap_one-requires : goal.swap_one-requires
swap_one-requires c =
    got_inside c.args.book.now.items c.args.forms.now.items (c.len-at.result - 1) c.index_mut.result.now c.requires.inside
    (omega arith) c.index_mut.ensures.value

pub returns : goal.returns
returns c =
    swapped_last c.args.book.now.items c.swap_one.new.book.items c.args.forms.now.items (set c.args.forms.now.items (c.len-at.result - 1) c.swap_one.new.form) (c.len-at.result - 1) c.index_mut.result.now c.swap_one.new.form
    (omega arith) c.index_mut.ensures.value c.swap_one.ensures.book c.swap_one.ensures.form c.swap_one.ensures.spot refl
