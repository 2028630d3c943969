use Rattle.std.proofs.Common.{Ok, sym, ◌∙◌, ap}
use Rattle.follower.specs.declared.fault.Accepted.{Accepted}
use Rattle.follow_commands.specs.Tallies.{tallied}
use Rattle.follow_commands.proofs.tally.Tally.counting.Goals as goal

pub returns-in-Taken : goal.returns-in-Taken
returns-in-Taken c =
    (λ i. record { taken = c.one_more-taken.ensures i; old = c.args.self.now.old; gaps = c.args.self.now.gaps })
    ∙ sym (ap (λ (a : Accepted). tallied c.args.self.now (Ok a)) c.in-Taken.is)

pub returns-in-Old : goal.returns-in-Old
returns-in-Old c =
    (λ i. record { taken = c.args.self.now.taken; old = c.one_more-old.ensures i; gaps = c.args.self.now.gaps })
    ∙ sym (ap (λ (a : Accepted). tallied c.args.self.now (Ok a)) c.in-Old.is)

pub returns-in-Gap : goal.returns-in-Gap
returns-in-Gap c =
    (λ i. record { taken = c.args.self.now.taken; old = c.args.self.now.old; gaps = c.one_more-gaps.ensures i })
    ∙ sym (ap (λ (a : Accepted). tallied c.args.self.now (Ok a)) c.in-Gap.is)
