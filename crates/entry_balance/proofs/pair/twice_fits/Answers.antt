use Rattle.std.proofs.Common.{◌<◌, ◌^◌, ◌≤◌, Some, unsigned_abs, sym, ap, ◌∙◌, arith}
use Rattle.hl_num.specs.Decimal.{Decimal}
use Rattle.book.specs.Mixed.{plus, fits_with}
use Rattle.entry_balance.specs.Tally.{is_within}
use Rattle.entry_balance.proofs.Doubled.{doubled_fits, doubled_over}
use Rattle.entry_balance.proofs.pair.twice_fits.Goals as goal

pub returns-in-Ok : goal.returns-in-Ok
returns-in-Ok c = λ symbol.
    let few : c.args.value.places ≤ 36 = omega (arith, c.decimals-places.ensures.value, c.decimals-places.ensures.bound) in
    let small : unsigned_abs c.args.value.mantissa < 2 ^ 127 = omega (arith, c.magnitude-size.ensures.value, c.magnitude-size.ensures.bound) in
    doubled_fits symbol c.args.value few small
    (ap (λ (d : Decimal). is_within (plus d d)) (sym c.absolute-once.ensures) ∙ ap is_within (sym c.in-Ok.ensures.value) ∙ c.in-Ok.ensures.within)

pub returns-in-Err : goal.returns-in-Err
returns-in-Err c = λ symbol.
    let few : c.args.value.places ≤ 36 = omega (arith, c.decimals-places.ensures.value, c.decimals-places.ensures.bound) in
    let small : unsigned_abs c.args.value.mantissa < 2 ^ 127 = omega (arith, c.magnitude-size.ensures.value, c.magnitude-size.ensures.bound) in
    doubled_over symbol c.args.value few small
    (ap (λ (d : Decimal). fits_with (Some d) d) (sym c.absolute-once.ensures) ∙ c.in-Err.ensures.fault)
