use Rattle.std.proofs.Common.{◌≡◌, ◌^◌, ◌<◌, unsigned_abs, Option, Some, None, IfSome, sym, ap, subst, ◌∙◌, arith}
use Rattle.hl_num.specs.Decimal.{Decimal}
use Rattle.hl_num.proofs.DecimalLemmas.{sum-alike, fits-alike}
use Rattle.hl_num.proofs.decimal.Dec.sum_at.Goals as goal

if_some : {X : Type 0} (P Q : X → Type 0) (o : Option X) → ((x : X) → P x → Q x) → IfSome o P → IfSome o Q
if_some P Q (Some x) f h = f x h
if_some P Q None f h = tt

pub returns-then-other-places-clause-value : goal.returns-then-other-places-clause-value
returns-then-other-places-clause-value c =
    let a = ap (λ (d : Decimal). d.places) c.self.view_is in
    let b = ap (λ (d : Decimal). d.places) c.other.view_is in
    let of_self : c.args.self.places ≡ c.args.places = omega arith in
    let of_other : c.args.other.places ≡ c.args.places = omega arith in
    if_some _ _ c.sum_alike.result (λ sum is. is ∙ sym (sum-alike c.args.self c.args.other c.args.places of_self of_other)) c.sum_alike.ensures.value

pub returns-then-other-places-clause-fits : goal.returns-then-other-places-clause-fits
returns-then-other-places-clause-fits c =
    let a = ap (λ (d : Decimal). d.places) c.self.view_is in
    let b = ap (λ (d : Decimal). d.places) c.other.view_is in
    let of_self : c.args.self.places ≡ c.args.places = omega arith in
    let of_other : c.args.other.places ≡ c.args.places = omega arith in
    let small : unsigned_abs c.args.self.mantissa < 2 ^ 127 = subst (λ (d : Decimal). unsigned_abs d.mantissa < 2 ^ 127) c.self.view_is c.self.invariant.mantissa_bound in
    let small_other : unsigned_abs c.args.other.mantissa < 2 ^ 127 = subst (λ (d : Decimal). unsigned_abs d.mantissa < 2 ^ 127) c.other.view_is c.other.invariant.mantissa_bound in
    c.sum_alike.ensures.fits ∙ sym (fits-alike c.args.self c.args.other c.args.places of_self of_other small small_other)
