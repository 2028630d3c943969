use Rattle.std.proofs.Common.{arith, rules, FitsSigned, ap}
use Rattle.std.specs.Int.{w128}
use Rattle.std.proofs.lemmas.Int.{to_z-of_z}
use Rattle.hl_num.specs.Decimal.{Decimal}
use Rattle.hl_num.proofs.DecimalLemmas.{units_of-sum}
use Rattle.hl_num.proofs.decimal.Dec.add.Goals as goal

pub returns-in-Some-clause-value : goal.returns-in-Some-clause-value
returns-in-Some-clause-value c =
    let fits : FitsSigned w128 c.in-Some.mantissa = search rules in
    let a = ap (λ (d : Decimal). d.places) c.self.view_is in
    let b = ap (λ (d : Decimal). d.places) c.other.view_is in
    rw (to_z-of_z w128 c.in-Some.mantissa fits, c.in-Some.ensures.value)
    (units_of-sum c.args.self c.args.other c.max-places.result (omega arith) (omega arith) (omega arith))
