use Rattle.std.proofs.Common.{ℤ, ◌-◌, ap, ◌∙◌, arith, rules, FitsSigned}
use Rattle.std.specs.Int.{w128}
use Rattle.std.proofs.lemmas.Int.{to_z-of_z}
use Rattle.balance_layouts.proofs.Divisions.{part_some, part_none, rounded_parts, scaled_parts}
use Rattle.balance_layouts.proofs.dividing.part.Goals as goal

pub returns-in-Some : goal.returns-in-Some
returns-in-Some c =
    let number : FitsSigned w128 c.args.number = search rules in
    let dividend : FitsSigned w128 c.in-Some.dividend = search rules in
    c.rounded.ensures
    ∙ ap (λ (x : ℤ). rounded_parts x c.args.divisor (c.args.places - c.saturating_sub-more.result) c.args.places) (to_z-of_z w128 c.in-Some.dividend dividend)
    ∙ part_some c.args.number c.args.divisor c.args.places c.saturating_sub-more.result (omega arith) c.in-Some.dividend
    (c.in-Some.ensures ∙ (λ i. scaled_parts (to_z-of_z w128 c.args.number number i) (c.power_of_ten.ensures.value i)))

pub returns-in-None : goal.returns-in-None
returns-in-None c =
    let number : FitsSigned w128 c.args.number = search rules in
    part_none c.args.number c.args.divisor c.args.places c.saturating_sub-more.result (omega arith)
    (c.in-None.ensures ∙ (λ i. scaled_parts (to_z-of_z w128 c.args.number number i) (c.power_of_ten.ensures.value i)))
