use Rattle.std.proofs.Common.{◌≡◌, ◌<◌, ◌==◌, ℕ, length, set, ap, subst, ◌∙◌, arith}
use Rattle.std.proofs.lemmas.List.{get_or_default}
use Rattle.kept_turnover.specs.Keeping.{more_at, no_part, part_at, part_with}
use Rattle.kept_turnover.specs.declared.part.Part.{Part}
use Rattle.kept_turnover.proofs.Placing.{more_set}
use Rattle.kept_turnover.proofs.places.raise_at.Goals as goal

pub returns-in-Some : goal.returns-in-Some
returns-in-Some c =
    let ps = c.args.parts.now.items in
    let k = c.from-place.result in
    let m = c.args.mantissa in
    let same : k ≡ c.args.places = c.from-place.ensures in
    let within : k < length ps = omega (arith, same, c.requires) in
    subst (λ (i : ℕ). (n : ℕ) → part_at (set ps k c.in-Some.part) n ≡ more_at (i == n) m (part_at ps n)) same
    (more_set ps k m c.in-Some.part within (c.in-Some.ensures ∙ ap (λ (p : Part). part_with p m) (c.index.ensures ∙ get_or_default ps k c.index.result.now no_part within)))
