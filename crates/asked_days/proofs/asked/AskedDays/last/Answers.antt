use Rattle.std.proofs.Common.{◌∙◌}
use Rattle.asked_days.proofs.Latest.{last-kept}
use Rattle.asked_days.proofs.asked.AskedDays.last.Goals as goal

pub returns : goal.returns
returns c = λ book h. c.last_day.ensures.day ∙ last-kept book c.args.self.now.days c.last_day.ensures.rises h.days
