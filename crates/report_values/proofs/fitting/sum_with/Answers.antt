use Rattle.std.proofs.Common.{◌≡◌, ◌<◌, ◌≤◌, ◌^◌, ◌+ℤ◌, max, unsigned_abs, false, sym, ap, subst, ◌∙◌, arith}
use Rattle.hl_num.specs.Decimal.{Decimal, units_of, add_fits}
use Rattle.report_values.specs.Totals.{absolute}
use Rattle.report_values.proofs.Summing.{summed_ok, summed_err}
use Rattle.report_values.proofs.fitting.sum_with.Goals as goal

pub returns-in-Ok : goal.returns-in-Ok
returns-in-Ok c = λ turnover places h.
    let units : units_of c.in-Ok.total ≡ units_of c.args.sum +ℤ units_of (absolute c.args.value) =
    c.in-Ok.ensures.value ∙ ap (λ (d : Decimal). units_of c.args.sum +ℤ units_of d) c.absolute.ensures in
    let most : c.in-Ok.total.places ≡ max c.args.sum.places c.args.value.places =
    c.in-Ok.ensures.places ∙ ap (λ (d : Decimal). max c.args.sum.places d.places) c.absolute.ensures in
    let bound : unsigned_abs c.in-Ok.total.mantissa < 2 ^ 127 = subst (λ n. n < 2 ^ 127) c.magnitude-magnitude.ensures.value c.magnitude-magnitude.ensures.bound in
    summed_ok c.args.sum c.args.value turnover places h c.in-Ok.total units most bound

pub returns-in-Err : goal.returns-in-Err
returns-in-Err c = λ turnover places h.
    let few : c.args.sum.places ≤ 36 = subst (λ n. n ≤ 36) c.decimals-sum_places.ensures.value c.decimals-sum_places.ensures.bound in
    let few_too : c.args.value.places ≤ 36 = subst (λ n. n ≤ 36) c.decimals-value_places.ensures.value c.decimals-value_places.ensures.bound in
    let unfit : add_fits c.args.sum (absolute c.args.value) ≡ false = ap (λ (d : Decimal). add_fits c.args.sum d) (sym c.absolute.ensures) ∙ sym c.in-Err.ensures.fits in
    summed_err c.args.sum c.args.value turnover places h few few_too unfit
