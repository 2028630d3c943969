use Rattle.std.proofs.Common.{◌≤◌, arith}
use Rattle.hl_num.proofs.Trimmed.{shortened_is}
use Rattle.hl_num.proofs.decimal.Dec.trimmed.Goals as goal

pub returns-clause-shortest : goal.returns-clause-shortest
returns-clause-shortest c =
    let few : c.without_zeros.result.places ≤ 36 = omega (arith, c.without_zeros.ensures.places, c.decimals-places.ensures.bound, c.decimals-places.ensures.value) in
    shortened_is c.args.self c.without_zeros.result few c.without_zeros.ensures.trimmed c.without_zeros.ensures.value
