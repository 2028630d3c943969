use Rattle.std.proofs.Common.{ℕ, ◌^◌, Err, ap, ◌∙◌, rules, FitsSigned}
use Rattle.std.specs.Int.{w128}
use Rattle.std.proofs.lemmas.Int.{to_z-of_z}
use Rattle.prices.specs.Values.{value_fits}
use Rattle.prices.proofs.Parts.{value_parts, ok_from_some, err_from_none}
use Rattle.prices.proofs.valuing.value.Goals as goal

pub returns-in-Some : goal.returns-in-Some
returns-in-Some c =
    let number : FitsSigned w128 c.mantissa.result = search rules in
    let num : FitsSigned w128 c.numerator.result = search rules in
    let a = to_z-of_z w128 c.mantissa.result number ∙ c.mantissa.ensures in
    let b = to_z-of_z w128 c.numerator.result num ∙ c.numerator.ensures in
    let scale = c.power_of_ten.ensures.value ∙ ap (λ (n : ℕ). 10 ^ n) c.decimals.ensures.value in
    ok_from_some (value_fits c.args.amount c.args.rate c.args.places) c.in-Some.value _ _
    (c.in-Some.ensures ∙ (λ i. value_parts (a i) (b i) (c.denominator.ensures.value i) (scale i) c.args.places))

pub returns-in-None : goal.returns-in-None
returns-in-None c =
    let number : FitsSigned w128 c.mantissa.result = search rules in
    let num : FitsSigned w128 c.numerator.result = search rules in
    let a = to_z-of_z w128 c.mantissa.result number ∙ c.mantissa.ensures in
    let b = to_z-of_z w128 c.numerator.result num ∙ c.numerator.ensures in
    let scale = c.power_of_ten.ensures.value ∙ ap (λ (n : ℕ). 10 ^ n) c.decimals.ensures.value in
    ap Err c.out_of_range.ensures
    ∙ err_from_none (value_fits c.args.amount c.args.rate c.args.places) _ _
    (c.in-None.ensures ∙ (λ i. value_parts (a i) (b i) (c.denominator.ensures.value i) (scale i) c.args.places))
