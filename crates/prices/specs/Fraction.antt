-- A rate, as contracts see it.
use Rattle.std.specs.Prelude.{ℤ}

-- `num / den`
pub record Fraction : Type 0 where
  pub num : ℤ
  pub den : ℤ
