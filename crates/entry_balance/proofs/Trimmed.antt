-- A product without zeros at the end of its decimals is determined by its value.
use Rattle.std.proofs.Common.{◌≡◌, pos, ◌+◌, ◌-◌, ◌^◌, ◌≤◌, ◌*ℤ◌, sym, ◌∙◌, arith}
use Rattle.hl_num.specs.Decimal.{Decimal, units_of, IsTrimmed}
use Rattle.hl_num.proofs.DecimalLemmas.{cancel}
use Rattle.hl_num.proofs.RoundingLemmas.{pow_ten_positive}
use Rattle.hl_num.proofs.TrimLemmas.{units_of-product}
use Rattle.hl_num.proofs.Trimmed.{same_trimmed, trimmed-units, trimmed-places, trimmed-is}
use Rattle.entry_balance.specs.Values.{product}

-- a product is determined by its value
pub product-is : (a b d : Decimal) → a.places + b.places ≤ 36 → d.places ≤ 36 → IsTrimmed d → units_of d *ℤ pos (10 ^ 36) ≡ units_of a *ℤ units_of b → d ≡ product a b
product-is a b d few few_more trim is =
    let m = a.mantissa *ℤ b.mantissa in
    let n = a.places + b.places in
    let value : units_of d ≡ m *ℤ pos (10 ^ (36 - n)) = cancel (units_of d) (m *ℤ pos (10 ^ (36 - n))) (10 ^ 36) (pow_ten_positive 36) (is ∙ sym (units_of-product a b few)) in
    same_trimmed d (product a b) few_more (omega (arith, trimmed-places m n)) trim (trimmed-is m n) (value ∙ sym (trimmed-units m n few))
