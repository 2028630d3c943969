use Rattle.std.proofs.Common.{◌≤◌, sym, arith}
use Rattle.entry_balance.proofs.Trimmed.{product-is}
use Rattle.rule_entries.proofs.Multiplied.{few_places, times_fit, times_past}
use Rattle.rule_entries.proofs.amounts.times.Goals as goal

pub returns-in-Ok : goal.returns-in-Ok
returns-in-Ok c =
    let fits = sym c.in-Ok.ensures.fits in
    let bound : c.in-Ok.product.places ≤ 36 = omega (arith, c.decimals-places.ensures.value, c.decimals-places.ensures.bound) in
    times_fit c.args.by c.args.number c.trimmed-short.result c.in-Ok.product c.trimmed-short.ensures.shortest fits
    (product-is c.trimmed-short.result c.args.by c.in-Ok.product (few_places c.trimmed-short.result c.args.by fits) bound c.in-Ok.ensures.trimmed c.in-Ok.ensures.value)

pub returns-in-Err : goal.returns-in-Err
returns-in-Err c = times_past c.args.by c.args.number c.trimmed-short.result c.trimmed-short.ensures.shortest (sym c.in-Err.ensures.fits)
