use Rattle.std.proofs.Common.{◌≡◌, ap, ◌∙◌, arith, rules, FitsSigned}
use Rattle.std.specs.Int.{w128}
use Rattle.std.specs.Ordering.{int_cmp}
use Rattle.std.proofs.lemmas.Int.{to_z-of_z}
use Rattle.std.specs.declared.cmp.Ordering.TheVariants.{Equal}
use Rattle.hl_num.specs.Decimal.{Decimal}
use Rattle.hl_num.proofs.CompareLemmas.{compare-same, compare-floors, compare-above}
use Rattle.hl_num.proofs.decimal.Dec.compare.Goals as goal

pub returns-then-self-other : goal.returns-then-self-other
returns-then-self-other c =
    let a = ap (λ (d : Decimal). d.places) c.self.view_is in
    let b = ap (λ (d : Decimal). d.places) c.other.view_is in
    let order = c.cmp.ensures ∙ ap (λ (d : Decimal). int_cmp d.mantissa c.other.inside.mantissa) c.self.view_is ∙ ap (λ (d : Decimal). int_cmp c.args.self.mantissa d.mantissa) c.other.view_is in
    compare-same c.args.self c.args.other c.cmp.result (omega arith) order

pub returns-in-Equal : goal.returns-in-Equal
returns-in-Equal c =
    let a = ap (λ (d : Decimal). d.places) c.self.view_is in
    let b = ap (λ (d : Decimal). d.places) c.other.view_is in
    let f : FitsSigned w128 c.floor.result = search rules in
    let g : FitsSigned w128 c.floor-2.result = search rules in
    let same : Equal ≡ int_cmp c.floor.result c.floor-2.result = rw (← to_z-of_z w128 c.floor.result f, ← to_z-of_z w128 c.floor-2.result g) (search rules) in
    compare-above c.args.self c.args.other c.cmp-in-Equal.result _ _ (omega arith) (omega arith) (rw (c.floor.ensures, c.floor-2.ensures) at same) c.above_floor.ensures c.above_floor-in-Equal.ensures c.cmp-in-Equal.ensures

pub returns-in_default : goal.returns-in_default
returns-in_default c =
    let a = ap (λ (d : Decimal). d.places) c.self.view_is in
    let b = ap (λ (d : Decimal). d.places) c.other.view_is in
    let f : FitsSigned w128 c.floor.result = search rules in
    let g : FitsSigned w128 c.floor-2.result = search rules in
    let order = rw (to_z-of_z w128 c.floor.result f, to_z-of_z w128 c.floor-2.result g, c.floor.ensures, c.floor-2.ensures) at c.cmp-2.ensures in
    compare-floors c.args.self c.args.other c.cmp-2.result (omega arith) (omega arith) c.in_default.not-Equal order
