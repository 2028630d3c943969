use Rattle.std.proofs.Common.{◌≡◌, ◌<◌, ◌^◌, ◌-◌, ap, arith, rules, pos, unsigned_abs, lit<}
use Rattle.std.specs.Int.{int_rem_euclid}
use Rattle.hl_num.specs.Decimal.{Decimal}
use Rattle.hl_num.proofs.CompareLemmas.{above_floor-units}
use Rattle.hl_num.proofs.decimal.Dec.above_floor.Goals as goal

pub overflow_mul-result : goal.overflow_mul-result
overflow_mul-result c =
    let own = ap (λ (d : Decimal). d.places) c.self.view_is in
    let rest : c.unsigned_abs.result ≡ unsigned_abs (int_rem_euclid c.args.self.mantissa (pos (10 ^ c.args.self.places))) = search rules in
    let unit : c.power_of_ten-2.result ≡ 10 ^ (36 - c.args.self.places) = search rules in
    let room : 10 ^ 36 < 2 ^ 127 = lit< tt in
    rw (rest, unit) (omega (arith, room, above_floor-units c.args.self (omega arith)))
