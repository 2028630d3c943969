use Rattle.std.proofs.Common.{◌∙◌, rules, FitsSigned}
use Rattle.std.specs.Int.{w128}
use Rattle.std.proofs.lemmas.Int.{to_z-of_z}
use Rattle.prices.specs.Fractions.{product_fits, product}
use Rattle.prices.proofs.Parts.{product_parts, ok_from_some}
use Rattle.prices.proofs.fractions.product.Goals as goal

pub returns-in-Some : goal.returns-in-Some
returns-in-Some c =
    let first : FitsSigned w128 c.numerator.result = search rules in
    let second : FitsSigned w128 c.numerator-2.result = search rules in
    let a = to_z-of_z w128 c.numerator.result first ∙ c.numerator.ensures in
    let b = to_z-of_z w128 c.numerator-2.result second ∙ c.numerator-2.ensures in
    ok_from_some (product_fits c.args.a c.args.b) c.in-Some.rate (product c.args.a c.args.b) _
    (c.in-Some.ensures ∙ (λ i. product_parts (a i) (c.denominator.ensures.value i) (b i) (c.denominator-2.ensures.value i)))
