use Rattle.std.proofs.Common.{◌∙◌}
use Rattle.text_store.proofs.Choosing.{second_follows}
use Rattle.text_store.proofs.finding.choose.Goals as goal

pub returns-then-other-following : goal.returns-then-other-following
returns-then-other-following c f s of_first of_second =
    second_follows f s c.in-Some-Some.one c.in-Some-Some.other c.args.first c.args.second c.in-Some-Some.is-0 c.in-Some-Some.is-1
    (c.if-other-following.true ∙ c.following.ensures) of_first of_second
