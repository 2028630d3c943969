use Rattle.std.proofs.Common.{◌++◌, sym, subst}
use Rattle.book.specs.Postings.{txn_in}
use Rattle.book.specs.declared.item.Item.{Item}
use Rattle.additions.specs.Words.{AreJudged}
use Rattle.additions.proofs.Judging.{none_pushed}
use Rattle.additions.proofs.settling.push_item.Goals as goal

pub returns-in-Gap : goal.returns-in-Gap
returns-in-Gap c = λ before h. subst (λ (i : Item). AreJudged (before ++ txn_in i) c.args.all.now.items) (sym c.in-Gap.is) (none_pushed before c.args.all.now.items h)

pub returns-in-Block : goal.returns-in-Block
returns-in-Block c = λ before h. subst (λ (i : Item). AreJudged (before ++ txn_in i) c.args.all.now.items) (sym c.in-Block.is) (none_pushed before c.args.all.now.items h)
