use Rattle.std.proofs.Common.{◌∙◌}
use Rattle.std.proofs.lemmas.Result.{err_from_is_err_and}
use Rattle.walked_edits.proofs.Going.{all_counted, all_few, all_most, all_put, next_held, next_is, one_most, putting_begins, putting_on_by}
use Rattle.walked_edits.proofs.walking.put_all.Goals as goal

pub loop-next-init : goal.loop-next-init
loop-next-init g c = putting_begins c.args.edit.now c.args.taken.now c.args.book.now.items c.args.kept.now c.args.steps.now c.requires

pub put_next-requires : goal.put_next-requires
put_next-requires g c =
    next_is c.args.edit.now c.args.taken.now c.args.book.now.items c.loop-next.book.items c.loop-next.kept c.loop-next.next-index c.args.steps.now c.loop-next.steps c.next-item.result c.loop-next-test.true c.next-item.is c.loop-next.invariant

pub loop-next-preserved : goal.loop-next-preserved
loop-next-preserved g c =
    putting_on_by c.args.edit.now c.args.taken.now c.args.book.now.items c.loop-next.book.items c.put_next.new.book.items c.loop-next.kept c.put_next.new.kept c.loop-next.next-index c.args.steps.now c.loop-next.steps c.put_next.new.steps c.next-item.result
    c.loop-next-test.true c.next-item.is c.loop-next.invariant c.in_ok-put_next.ensures.put c.put_next.ensures.back c.in_ok-put_next.ensures.counted c.in_ok-put_next.ensures.few

pub returns-clause-put : goal.returns-clause-put
returns-clause-put g c = all_put c.args.edit.now c.args.taken.now c.args.book.now.items c.loop-next.book.items c.loop-next.kept c.loop-next.next-index c.args.steps.now c.loop-next.steps c.loop-next-test.false c.loop-next.invariant

pub returns-clause-back : goal.returns-clause-back
returns-clause-back g c = c.loop-next.invariant.back

pub returns-clause-counted : goal.returns-clause-counted
returns-clause-counted g c = all_counted c.args.edit.now c.args.taken.now c.args.book.now.items c.loop-next.book.items c.loop-next.kept c.loop-next.next-index c.args.steps.now c.loop-next.steps c.loop-next-test.false c.loop-next.invariant

pub returns-clause-few : goal.returns-clause-few
returns-clause-few g c = all_few c.args.edit.now c.args.taken.now c.args.book.now.items c.loop-next.book.items c.loop-next.kept c.loop-next.next-index c.args.steps.now c.loop-next.steps c.loop-next-test.false c.loop-next.invariant

pub returns-clause-read : goal.returns-clause-read
returns-clause-read g c = c.loop-next.invariant.counted.bytes_read

pub returns-in_err-put_next-clause-back : goal.returns-in_err-put_next-clause-back
returns-in_err-put_next-clause-back g c =
    c.put_next.ensures.back c.args.taken.now (next_held c.args.taken.now c.loop-next.next-index c.next-item.result c.loop-next-test.true c.next-item.is) ∙ c.loop-next.invariant.back

pub returns-in_err-put_next-clause-read : goal.returns-in_err-put_next-clause-read
returns-in_err-put_next-clause-read g c = c.put_next.ensures.read ∙ c.loop-next.invariant.counted.bytes_read

pub returns-in_err-put_next-clause-load : goal.returns-in_err-put_next-clause-load
returns-in_err-put_next-clause-load g c =
    let p = err_from_is_err_and c.from_residual.result c.from_residual.ensures.1 in
    rw (p.1, p.2) c.in_err-put_next.ensures.load

pub returns-clause-most : goal.returns-clause-most
returns-clause-most g c = all_most c.args.edit.now c.args.taken.now c.args.book.now.items c.loop-next.book.items c.args.kept.now c.loop-next.kept c.loop-next.next-index c.args.steps.now c.loop-next.steps c.requires c.loop-next.invariant

pub returns-in_err-put_next-clause-most : goal.returns-in_err-put_next-clause-most
returns-in_err-put_next-clause-most g c =
    one_most c.args.edit.now c.args.taken.now c.args.book.now.items c.loop-next.book.items c.args.kept.now c.loop-next.kept c.loop-next.next-index c.args.steps.now c.loop-next.steps c.put_next.new.steps c.loop-next-test.true c.requires c.loop-next.invariant c.put_next.ensures.most
