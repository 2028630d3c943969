-- The order of marks is total.
use Rattle.std.specs.Prelude.{◌≡◌, ℕ, Bool, true, false, List}
use Rattle.std.proofs.Common.{refl, sym, ap, ◌∙◌}
use Rattle.std.specs.declared.cmp.Ordering.{Ordering}
use Rattle.std.specs.declared.cmp.Ordering.TheVariants.{Less, Equal, Greater}
use Rattle.std.specs.Ordering.{nat_cmp, ordering_then, is_gt}
use Rattle.std.specs.Cmp.{IsTotalOrder}
use Rattle.std.specs.Cmp.Lexicographic.{slice_cmp}
use Rattle.std.proofs.lemmas.Bool.{false≢true}
use Rattle.std.proofs.lemmas.Cmp.{on_total, then_total, nat_list_cmp_total, nat_cmp_total, alike_right}
use Rattle.counted_styles.specs.declared.mark.Mark.{Mark}
use Rattle.counted_styles.specs.Marks.{edge_cmp, mark_cmp, side_of}

pub mark_total : IsTotalOrder mark_cmp
mark_total = then_total (on_total (λ (m : Mark). m.symbol) nat_list_cmp_total) (on_total (λ (m : Mark). m.at) nat_cmp_total)

-- a symbol and a number as a mark
abbrev pub mark_sought : List ℕ → ℕ → Mark → Mark
mark_sought symbol at m = record m { symbol = symbol; at = at }

-- one end of a symbol is less than each mark above one that isn't less than it
pub edge_up : (symbol : List ℕ) (behind : Bool) (a b : Mark) → is_gt (edge_cmp symbol behind a) ≡ false → mark_cmp a b ≡ Less → edge_cmp symbol behind b ≡ Less
edge_up symbol behind a b h k =
    elim (slice_cmp nat_cmp symbol a.symbol) as (λ r. slice_cmp nat_cmp symbol a.symbol ≡ r → is_gt (ordering_then r (side_of behind)) ≡ false → edge_cmp symbol behind b ≡ Less) [
      | Less ↦ λ e q. less e
      | Equal ↦ λ e q. tied behind e q
      | Greater ↦ λ e q. absurd (false≢true (sym q))
    ] refl h
  where
    -- the symbol of b is that of a, or greater
    less : slice_cmp nat_cmp symbol a.symbol ≡ Less → edge_cmp symbol behind b ≡ Less
    less e =
        elim (slice_cmp nat_cmp a.symbol b.symbol) as (λ r. slice_cmp nat_cmp a.symbol b.symbol ≡ r → ordering_then r (nat_cmp a.at b.at) ≡ Less → edge_cmp symbol behind b ≡ Less) [
          | Less ↦ λ f q. ap (λ (r : Ordering). ordering_then r (side_of behind)) (nat_list_cmp_total.trans symbol a.symbol b.symbol e f)
          | Equal ↦ λ f q. ap (λ (r : Ordering). ordering_then r (side_of behind)) (sym (alike_right nat_list_cmp_total a.symbol b.symbol symbol f) ∙ e)
          | Greater ↦ λ f q. absurd (differs q)
        ] refl k
      where
        differs : Greater ≡ Less → ⊥
        differs q = cc

    tied : (d : Bool) → slice_cmp nat_cmp symbol a.symbol ≡ Equal → is_gt (side_of d) ≡ false → ordering_then (slice_cmp nat_cmp symbol b.symbol) (side_of d) ≡ Less
    tied true e q = absurd (false≢true (sym q))
    tied false e q =
        elim (slice_cmp nat_cmp a.symbol b.symbol) as (λ r. slice_cmp nat_cmp a.symbol b.symbol ≡ r → ordering_then r (nat_cmp a.at b.at) ≡ Less → ordering_then (slice_cmp nat_cmp symbol b.symbol) Less ≡ Less) [
          | Less ↦ λ f p. ap (λ (r : Ordering). ordering_then r Less) (nat_list_cmp_total.congr symbol a.symbol b.symbol e ∙ f)
          | Equal ↦ λ f p. ap (λ (r : Ordering). ordering_then r Less) (nat_list_cmp_total.congr symbol a.symbol b.symbol e ∙ f)
          | Greater ↦ λ f p. absurd (differs p)
        ] refl k
      where
        differs : Greater ≡ Less → ⊥
        differs p = cc
