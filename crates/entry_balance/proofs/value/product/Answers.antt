use Rattle.std.proofs.Common.{◌≤◌, ◌+◌, ◌*◌, ◌^◌, nat_lt, unsigned_abs, arith}
use Rattle.std.proofs.lemmas.Bool.{leb-true}
use Rattle.entry_balance.proofs.Named.{right_true}
use Rattle.entry_balance.proofs.Trimmed.{product-is}
use Rattle.entry_balance.proofs.value.product.Goals as goal

pub returns : goal.returns
returns c =
    let few : c.args.a.places + c.args.b.places ≤ 36 = leb-true _ _ (right_true (nat_lt (unsigned_abs c.args.a.mantissa * unsigned_abs c.args.b.mantissa) (2 ^ 127)) _ c.requires) in
    let bound : c.in-Ok.product.places ≤ 36 = omega (arith, c.decimals-places.ensures.value, c.decimals-places.ensures.bound) in
    product-is c.args.a c.args.b c.in-Ok.product few bound c.in-Ok.ensures.trimmed c.in-Ok.ensures.value
