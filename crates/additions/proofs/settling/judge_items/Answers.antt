use Rattle.std.proofs.Common.{◌≤◌, length, take, take_all, List, subst, arith}
use Rattle.book.specs.Postings.{txns_of}
use Rattle.book.specs.declared.item.Placed.{Placed}
use Rattle.additions.specs.Words.{AreJudged}
use Rattle.additions.proofs.Judging.{more_judged}
use Rattle.additions.proofs.settling.judge_items.Goals as goal

pub loop-placed-preserved : goal.loop-placed-preserved
loop-placed-preserved c =
    more_judged c.args.items.now c.loop-placed.placed-index c.placed-item.result c.push_item.new.all.items (omega arith) c.placed-item.is
    (c.in_ok-push_item.ensures (txns_of (take c.loop-placed.placed-index c.args.items.now)) c.loop-placed.invariant)

pub returns : goal.returns
returns c =
    let past : length c.args.items.now ≤ c.loop-placed.placed-index = omega arith in
    subst (λ (xs : List Placed). AreJudged (txns_of xs) c.loop-placed.all.items) (take_all c.loop-placed.placed-index c.args.items.now past) c.loop-placed.invariant
