use Rattle.std.proofs.Common.{◌≡◌, ◌^◌, ◌-◌, sym, ap, ◌∙◌, arith, ℕ, unsigned_abs}
use Rattle.hl_num.specs.Decimal.{Decimal}
use Rattle.hl_num.specs.Rounding.{half_even}
use Rattle.hl_num.proofs.RoundingLemmas.{half_even-units-fewer, parts-more, fraction-below}
use Rattle.hl_num.proofs.printing.rounded_parts.Goals as goal

pub overflow_mul-result : goal.overflow_mul-result
overflow_mul-result c =
    rw (c.power_of_ten.ensures.value, c.power_of_ten-scale.ensures.value)
    (omega (arith, fraction-below c.magnitude-magnitude.result c.value.inside.places c.args.places c.if-value-places.true c.requires))

pub returns-then-value-places : goal.returns-then-value-places
returns-then-value-places c =
    let own = ap (λ (d : Decimal). d.places) c.value.view_is in
    let both = parts-more c.args.value _ c.value.inside.places c.args.places _ _ c.magnitude-magnitude.ensures.value own c.if-value-places.true c.requires c.power_of_ten-scale.ensures.value c.power_of_ten.ensures.value in
    record { whole = both.0; fraction = both.1 }

pub returns-else-value-places : goal.returns-else-value-places
returns-else-value-places c =
    let own = ap (λ (d : Decimal). d.places) c.value.view_is in
    let rounded : c.half_even-rounded.result ≡ half_even (unsigned_abs c.args.value.mantissa) (10 ^ (c.args.value.places - c.args.places)) =
    c.half_even-rounded.ensures.value
    ∙ ap (λ (x : ℕ). half_even x c.power_of_ten-else-value-places.result) c.magnitude-magnitude.ensures.value
    ∙ ap (λ (x : ℕ). half_even (unsigned_abs c.args.value.mantissa) x) (c.power_of_ten-else-value-places.ensures.value ∙ ap (λ (s : ℕ). 10 ^ (s - c.args.places)) own) in
    let same = rounded ∙ sym (half_even-units-fewer c.args.value c.args.places (omega arith) (omega arith)) in
    let scale = c.power_of_ten-scale-else-value-places.ensures.value in
    record { whole = rw (same, scale); fraction = rw (same, scale) }
