-- What a symbol is exchanged for: a target, at a rate, with so many decimals.
use Rattle.std.specs.Prelude.{ℕ, List}
use Rattle.prices.specs.Fraction.{Fraction}

pub record Sale : Type 0 where
  pub target : List ℕ
  pub rate : Fraction
  pub places : ℕ
