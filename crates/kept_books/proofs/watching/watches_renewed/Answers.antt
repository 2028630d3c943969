use Rattle.std.proofs.Common.{arith}
use Rattle.std.specs.Option.{option_copied}
use Rattle.kept_books.proofs.Renewing.{lent_of, renews_all, renews_none, renews_step}
use Rattle.kept_books.proofs.watching.watches_renewed.Goals as goal

pub loop-at-init : goal.loop-at-init
loop-at-init c = renews_none c.args.first (lent_of c.args.former.now) (lent_of c.args.forms.now) c.args.watchers.now c.in_ok-more.more c.in_ok-more.ensures

pub loop-at-preserved : goal.loop-at-preserved
loop-at-preserved c =
    renews_step c.args.first (lent_of c.args.former.now) c.args.forms.now c.loop-at.at _ c.index-forms-at.result (option_copied c.lent_at-old.result) c.args.watchers.now c.loop-at.more c.put_watches.new.watchers
    (omega arith) c.index-forms-at.is (omega arith) c.lent_at-old.ensures c.loop-at.invariant c.in_ok-put_watches.ensures

pub returns : goal.returns
returns c = renews_all c.args.first (lent_of c.args.former.now) c.args.forms.now c.loop-at.at c.args.watchers.now c.loop-at.more (omega arith) c.loop-at.invariant
