use Rattle.std.proofs.Common.{◌∙◌, ap}
use Rattle.desk_team.specs.Houses.{is_sound}
use Rattle.serve_rows.proofs.Houses.{one_sound}
use Rattle.serve_rows.proofs.case.house_of.Goals as goal

pub returns : goal.returns
returns c = λ none none_of_the_door.
    one_sound (λ kit. is_sound kit.door) _ _ _ c.kit_of.result _ c.in_ok-house.ensures.told none c.in_ok-kits.ensures.one
    (ap is_sound c.kit_of.ensures.1 ∙ c.in_ok-door.ensures.1 none_of_the_door)
