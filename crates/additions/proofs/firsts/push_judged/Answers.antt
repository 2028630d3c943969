use Rattle.std.proofs.Common.{ap, ◌∙◌}
use Rattle.additions.specs.Words.{or_sooner}
use Rattle.additions.proofs.firsts.push_judged.Goals as goal

pub returns-clause-first : goal.returns-clause-first
returns-clause-first c = c.or_sooner.ensures ∙ ap (or_sooner c.args.before) c.first_at-own.ensures
