use Rattle.std.proofs.Common.{ℤ, ap, ◌∙◌, rules, FitsSigned}
use Rattle.std.specs.Int.{w128}
use Rattle.std.proofs.lemmas.Int.{to_z-of_z}
use Rattle.prices.proofs.Parts.{over_parts, product_at, value_some, value_none}
use Rattle.prices.proofs.valuing.value_of_parts.Goals as goal

pub returns-in-Some : goal.returns-in-Some
returns-in-Some c =
    let fits : FitsSigned w128 c.in-Some.product = search rules in
    let number : FitsSigned w128 c.args.number = search rules in
    let num : FitsSigned w128 c.args.num = search rules in
    c.over.ensures
    ∙ ap (λ (x : ℤ). over_parts x c.args.den c.args.scale c.args.places) (to_z-of_z w128 c.in-Some.product fits)
    ∙ value_some c.args.number c.args.num c.in-Some.product c.args.den c.args.scale c.args.places
    (c.in-Some.ensures ∙ (λ i. product_at (to_z-of_z w128 c.args.number number i) (to_z-of_z w128 c.args.num num i)))

pub returns-in-None : goal.returns-in-None
returns-in-None c =
    let number : FitsSigned w128 c.args.number = search rules in
    let num : FitsSigned w128 c.args.num = search rules in
    value_none c.args.number c.args.num c.args.den c.args.scale c.args.places
    (c.in-None.ensures ∙ (λ i. product_at (to_z-of_z w128 c.args.number number i) (to_z-of_z w128 c.args.num num i)))
