use Rattle.std.proofs.Common.{◌≡◌, ◌*ℤ◌, ◌+◌, ◌-◌, ◌^◌, pos, ℤ, ℕ, ◌≤◌, ap, ◌∙◌, arith, rules, FitsSigned}
use Rattle.std.specs.Int.{w128}
use Rattle.std.proofs.lemmas.Int.{to_z-of_z}
use Rattle.hl_num.specs.Decimal.{Decimal}
use Rattle.hl_num.proofs.TrimLemmas.{units_of-product}
use Rattle.hl_num.proofs.decimal.Dec.mul.Goals as goal

pub returns-in-Some-clause-value : goal.returns-in-Some-clause-value
returns-in-Some-clause-value c =
    let fits : FitsSigned w128 c.in-Some.mantissa = search rules in
    let a = ap (λ (d : Decimal). d.places) c.self.view_is in
    let b = ap (λ (d : Decimal). d.places) c.other.view_is in
    let product : c.in-Some.mantissa ≡ c.args.self.mantissa *ℤ c.args.other.mantissa = search rules in
    let made = rw (to_z-of_z w128 c.in-Some.mantissa fits, product) at c.without_zeros.ensures.value in
    let few : c.args.self.places + c.args.other.places ≤ 36 = omega arith in
    ap (λ (x : ℤ). x *ℤ pos (10 ^ 36)) made
    ∙ ap (λ (s : ℕ). c.args.self.mantissa *ℤ c.args.other.mantissa *ℤ pos (10 ^ (36 - (s + c.other.inside.places))) *ℤ pos (10 ^ 36)) a
    ∙ ap (λ (s : ℕ). c.args.self.mantissa *ℤ c.args.other.mantissa *ℤ pos (10 ^ (36 - (c.args.self.places + s))) *ℤ pos (10 ^ 36)) b
    ∙ units_of-product c.args.self c.args.other few
