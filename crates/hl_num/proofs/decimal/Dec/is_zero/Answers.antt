use Rattle.std.proofs.Common.{◌≡◌, ◌^◌, ◌-◌, ◌∙◌, ◌*ℤ◌, ap, rules, pos, ℤ, IsTrue, ◌↔◌, nat_eq, of_z}
use Rattle.std.specs.Int.{w128}
use Rattle.std.proofs.Math.IntN.{zero-*ℤ}
use Rattle.hl_num.proofs.DecimalLemmas.{zero-from_units}
use Rattle.hl_num.proofs.RoundingLemmas.{pow_ten_positive}
use Rattle.hl_num.proofs.decimal.Dec.is_zero.Goals as goal

pub returns-clause-value : goal.returns-clause-value
returns-clause-value c =
    let scale = pos (10 ^ (36 - c.args.self.places)) in
    let own : IsTrue (nat_eq (of_z w128 c.self.inside.mantissa) 0) ↔ (c.args.self.mantissa ≡ pos 0) = search rules in (
      λ t. ap (λ (m : ℤ). m *ℤ scale) (own.0 t) ∙ zero-*ℤ scale,
      λ none. own.1 (zero-from_units c.args.self.mantissa (10 ^ (36 - c.args.self.places)) (pow_ten_positive (36 - c.args.self.places)) none),
    )
