use Rattle.std.proofs.Common.{ℕ, ◌+◌, ◌^◌, ap, ◌∙◌}
use Rattle.budget_layout.proofs.Parts.{product_parts, product_small, told_none, told_some}
use Rattle.budget_layout.proofs.percent.percent_told.Goals as goal

pub told_by-requires-clause-small : goal.told_by-requires-clause-small
told_by-requires-clause-small c = product_small c.magnitude.result c.power_of_ten.result c.in-Some.part c.in-Some.ensures

pub returns-in-Some : goal.returns-in-Some
returns-in-Some c =
    let scale = c.power_of_ten.ensures.value ∙ ap (λ (n : ℕ). 10 ^ (n + 2)) c.decimals.ensures.value in
    told_some c.args.amount c.args.goal c.in-Some.part c.told_by.result
    (c.in-Some.ensures ∙ (λ i. product_parts (c.magnitude.ensures.value i) (scale i))) c.told_by.ensures

pub returns-in-None : goal.returns-in-None
returns-in-None c =
    let scale = c.power_of_ten.ensures.value ∙ ap (λ (n : ℕ). 10 ^ (n + 2)) c.decimals.ensures.value in
    told_none c.args.amount c.args.goal (c.in-None.ensures ∙ (λ i. product_parts (c.magnitude.ensures.value i) (scale i)))
