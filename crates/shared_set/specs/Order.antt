-- What follows from an order.
use Rattle.std.specs.Prelude.{◌≡◌, false}
use Rattle.std.proofs.Common.{refl, sym, ap, ◌∙◌}
use Rattle.std.specs.declared.cmp.Ordering.{Ordering}
use Rattle.std.specs.declared.cmp.Ordering.TheVariants.{Less, Equal, Greater}
use Rattle.std.specs.Ordering.{is_gt}
use Rattle.std.specs.Cmp.{IsTotalOrder}
use Rattle.std.proofs.lemmas.Bool.{false≢true}

-- an item is less than each one above another that isn't less than it
pub goes_up : {T : Type 0} {R : T → T → Ordering} → IsTotalOrder R → (s a b : T) → is_gt (R s a) ≡ false → R a b ≡ Less → R s b ≡ Less
goes_up {R = R} o s a b h k =
    elim (R s a) as (λ r. R s a ≡ r → is_gt r ≡ false → R s b ≡ Less) [
      | Less ↦ λ e q. o.trans s a b e k
      | Equal ↦ λ e q. o.congr s a b e ∙ k
      | Greater ↦ λ e q. absurd (false≢true (sym q))
    ] refl h
