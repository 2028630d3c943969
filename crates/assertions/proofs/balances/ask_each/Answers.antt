use Rattle.assertions.specs.Kept.{is_asked}
use Rattle.assertions.proofs.Balanced.{each-more, stays_all}
use Rattle.assertions.proofs.balances.ask_each.Goals as goal

pub loop-posting-preserved : goal.loop-posting-preserved
loop-posting-preserved c =
    let b = c.loop-posting.balances in
    let new = c.ask.new.balances in
    record {
      fresh = λ h. c.in_ok-ask.ensures.fresh (c.loop-posting.invariant.fresh h);
      asked = each-more (is_asked b.own b.below) (is_asked new.own new.below) c.args.postings.now c.loop-posting.posting-index c.posting-item.result c.loop-posting-test.true c.posting-item.is
          c.in_ok-ask.ensures.stays.asked c.loop-posting.invariant.asked c.in_ok-ask.ensures.asked;
      stays = stays_all _ _ _ _ _ _ c.loop-posting.invariant.stays c.in_ok-ask.ensures.stays;
    }
