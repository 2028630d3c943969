-- Values: a symbol with a number of it. What the amounts and costs of postings come to.
use Rattle.std.specs.Prelude.{ℕ, ℤ, pos, neg_ℤ, ◌*ℤ◌, ◌+◌, ◌/◌, ◌%◌, ◌==◌, zero, suc, Bool, true, int_lt, unsigned_abs, List, [], ◌∷◌, Option, Some, None, if◌then◌else◌}
use Rattle.hl_num.specs.Decimal.{Decimal, mul_fits}
pub use Rattle.hl_num.specs.Shortest.{trimmed}
use Rattle.book.specs.declared.amount.Amount.{Amount}
use Rattle.book.specs.declared.amount.Cost.{Cost}
use Rattle.book.specs.declared.amount.Cost.TheVariants.{Unit, Total}

abbrev pub Value : Type 0
Value = List ℕ × Decimal

abbrev pub value_of : Amount → Value
value_of a = (a.symbol, a.value)

-- an exact product, without zeros at the end of its decimals
abbrev pub product : Decimal → Decimal → Decimal
product a b = trimmed (a.mantissa *ℤ b.mantissa) (a.places + b.places)

-- a magnitude with the sign of a number, and zero beside zero
abbrev pub signed_like : ℤ → ℕ → ℤ
signed_like z n = if int_lt z (pos 0) then neg_ℤ (pos n) else (if unsigned_abs z == 0 then pos 0 else pos n)

-- what a quantity costs: so many times the cost of a unit; or the absolute value of the total cost, with the
-- quantity's sign
abbrev pub cost_of : Decimal → Cost → Value
cost_of quantity (Unit a) = (a.symbol, product quantity a.value)
cost_of quantity (Total a) = (a.symbol, record { mantissa = signed_like quantity.mantissa (unsigned_abs a.value.mantissa); places = a.value.places })

-- the cost can be told: a product's mantissa stays below 2^127, and its places are at most 36
abbrev pub cost_fits : Decimal → Cost → Bool
cost_fits quantity (Unit a) = mul_fits quantity a.value
cost_fits quantity (Total a) = true

-- a number without its sign
abbrev pub absolute : Decimal → Decimal
absolute d = record { mantissa = pos (unsigned_abs d.mantissa); places = d.places }

abbrev pub absolute_value : Value → Value
absolute_value v = (v.0, absolute v.1)

-- an amount at cost: what it costs, and itself where no cost is written
abbrev pub at_cost : Amount → Option Cost → Value
at_cost a None = value_of a
at_cost a (Some cost) = cost_of a.value cost

abbrev pub cost_values : Amount → Option Cost → List Value
cost_values a None = []
cost_values a (Some cost) = cost_of a.value cost ∷ []
