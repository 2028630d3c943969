use Rattle.std.proofs.Common.{◌≡◌, ◌^◌, ◌-◌, ◌∙◌, sym, rules, pos, int_lt, of_z, to_z}
use Rattle.std.specs.Int.{w128}
use Rattle.hl_num.proofs.RoundingLemmas.{pow_ten_positive}
use Rattle.hl_num.proofs.PrintingLemmas.{negative-mul}
use Rattle.hl_num.proofs.decimal.Dec.is_negative.Goals as goal

pub returns-clause-value : goal.returns-clause-value
returns-clause-value c =
    let same : int_lt (to_z w128 (of_z w128 c.self.inside.mantissa)) (pos 0) ≡ int_lt c.args.self.mantissa (pos 0) = search rules in
    same ∙ sym (negative-mul c.args.self.mantissa (10 ^ (36 - c.args.self.places)) (pow_ten_positive (36 - c.args.self.places)))
