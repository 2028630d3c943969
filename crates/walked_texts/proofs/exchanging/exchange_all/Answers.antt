use Rattle.std.proofs.Common.{◌++◌}
use Rattle.walked_texts.proofs.Exchanged.{inside_at, on_begins, on_done, on_step}
use Rattle.walked_texts.proofs.exchanging.exchange_all.Goals as goal

pub loop-form-init : goal.loop-form-init
loop-form-init c = on_begins (c.args.book.now ++ c.args.behind.now) c.args.forms.now c.args.edited.now c.requires.once

pub exchange_one-requires : goal.exchange_one-requires
exchange_one-requires c =
    inside_at (c.args.book.now ++ c.args.behind.now) c.args.forms.now c.loop-form.form-index c.form-item.result c.requires.inside c.loop-form-test.true c.form-item.is

pub loop-form-preserved : goal.loop-form-preserved
loop-form-preserved c =
    on_step (c.args.book.now ++ c.args.behind.now) c.args.forms.now c.loop-form.form-index c.form-item.result c.args.edited.now c.loop-form.edited c.exchange_one.new.edited
    c.loop-form-test.true c.form-item.is c.loop-form.invariant c.in_ok-exchange_one.ensures

pub returns : goal.returns
returns c = on_done (c.args.book.now ++ c.args.behind.now) c.args.forms.now c.loop-form.form-index c.args.edited.now c.loop-form.edited c.loop-form-test.false c.loop-form.invariant
