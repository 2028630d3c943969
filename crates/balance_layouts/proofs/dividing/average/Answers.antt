use Rattle.std.proofs.Common.{ℕ, ℤ, ◌^◌, ap, ◌∙◌, rules, FitsSigned}
use Rattle.std.specs.Int.{w128}
use Rattle.std.proofs.lemmas.Int.{to_z-of_z}
use Rattle.hl_num.specs.Decimal.{Decimal}
use Rattle.balance_layouts.specs.KeptAverages.{told_average}
use Rattle.balance_layouts.proofs.Divisions.{average_some, average_none, divisor_parts, part_parts, some_divisor}
use Rattle.balance_layouts.proofs.dividing.average.Goals as goal

pub returns-in-Some : goal.returns-in-Some
returns-in-Some c =
    let t = c.shortened-short.result in
    let m : FitsSigned w128 c.mantissa.result = search rules in
    let scale = c.power_of_ten.ensures.value ∙ ap (λ (n : ℕ). 10 ^ n) c.decimals.ensures.value in
    c.part.ensures
    ∙ ap (λ (z : ℤ). part_parts z c.in-Some.divisor c.args.places) (to_z-of_z w128 c.mantissa.result m ∙ c.mantissa.ensures)
    ∙ average_some c.args.columns c.args.places t c.in-Some.divisor (c.in-Some.ensures ∙ ap (λ (s : ℕ). divisor_parts c.args.columns s) scale)
    ∙ ap (λ (d : Decimal). told_average c.args.columns c.args.places d) c.shortened-short.ensures

pub returns-in-None : goal.returns-in-None
returns-in-None c =
    let t = c.shortened-short.result in
    let scale = c.power_of_ten.ensures.value ∙ ap (λ (n : ℕ). 10 ^ n) c.decimals.ensures.value in
    average_none c.args.columns c.args.places t (c.in-None.ensures ∙ ap (λ (s : ℕ). divisor_parts c.args.columns s) scale)
    ∙ ap (λ (d : Decimal). told_average c.args.columns c.args.places d) c.shortened-short.ensures

pub part-requires-clause-above : goal.part-requires-clause-above
part-requires-clause-above c =
    let scale = c.power_of_ten.ensures.value ∙ ap (λ (n : ℕ). 10 ^ n) c.decimals.ensures.value in
    (some_divisor c.args.columns c.args.places c.shortened-short.result c.in-Some.divisor c.requires.some (c.in-Some.ensures ∙ ap (λ (s : ℕ). divisor_parts c.args.columns s) scale)).0

pub part-requires-clause-below : goal.part-requires-clause-below
part-requires-clause-below c =
    let scale = c.power_of_ten.ensures.value ∙ ap (λ (n : ℕ). 10 ^ n) c.decimals.ensures.value in
    (some_divisor c.args.columns c.args.places c.shortened-short.result c.in-Some.divisor c.requires.some (c.in-Some.ensures ∙ ap (λ (s : ℕ). divisor_parts c.args.columns s) scale)).1
