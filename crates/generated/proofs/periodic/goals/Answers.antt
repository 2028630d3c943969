use Rattle.std.proofs.Common.{refl, sym, ◌∙◌}
use Rattle.rule_entries.specs.Counted.{excess_of}
use Rattle.rule_entries.specs.Making.{made_by_day, made_of}
use Rattle.generated.specs.Judged.{judged}
use Rattle.generated.proofs.Ending.{judged_by, refused_by, refused_gives}
use Rattle.generated.proofs.periodic.goals.Goals as goal

pub returns-in-Some : goal.returns-in-Some
returns-in-Some c =
    refused_gives c.in-Some.excess c.too_many.result _ c.too_many.ensures
    (refused_by (excess_of (made_of c.args.span c.args.items.now)) c.in-Some.excess (judged (made_by_day c.args.span c.args.items.now)) (sym c.in-Some.ensures))

pub returns-in-None : goal.returns-in-None
returns-in-None c =
    let made = made_by_day c.args.span c.args.items.now in
    judged_by c.judged_alone.result (excess_of (made_of c.args.span c.args.items.now)) made made (sym c.excess_in.ensures ∙ c.in-None.is) refl c.judged_alone.ensures
