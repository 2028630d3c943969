use Rattle.std.proofs.Common.{ℕ, ◌^◌, ap, sym, subst, ◌∙◌, ◌<◌}
use Rattle.budget_layout.proofs.Parts.{by_none, by_some, product_parts, product_small, product_some}
use Rattle.budget_layout.proofs.percent.told_by.Goals as goal

pub quotient-number-requires-clause-above : goal.quotient-number-requires-clause-above
quotient-number-requires-clause-above c =
    product_some c.magnitude.result c.power_of_ten.result c.in-Some.whole c.in-Some.ensures
    (subst (λ (n : ℕ). 0 < n) (sym c.magnitude.ensures.value) c.requires.some) c.power_of_ten.ensures.above

pub quotient-number-requires-clause-below : goal.quotient-number-requires-clause-below
quotient-number-requires-clause-below c = product_small c.magnitude.result c.power_of_ten.result c.in-Some.whole c.in-Some.ensures

pub returns-in-Some : goal.returns-in-Some
returns-in-Some c =
    let scale = c.power_of_ten.ensures.value ∙ ap (λ (n : ℕ). 10 ^ n) c.decimals.ensures.value in
    by_some c.args.amount c.args.goal c.args.part c.in-Some.whole c.quotient-number.result c.signed.result c.are_opposite.result
    (c.in-Some.ensures ∙ (λ i. product_parts (c.magnitude.ensures.value i) (scale i)))
    c.quotient-number.ensures c.are_opposite.ensures c.signed.ensures

pub returns-in-None : goal.returns-in-None
returns-in-None c =
    let scale = c.power_of_ten.ensures.value ∙ ap (λ (n : ℕ). 10 ^ n) c.decimals.ensures.value in
    by_none c.args.amount c.args.goal c.args.part (c.in-None.ensures ∙ (λ i. product_parts (c.magnitude.ensures.value i) (scale i)))
