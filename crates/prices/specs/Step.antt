-- A step from a symbol to another.
use Rattle.std.specs.Prelude.{ℕ, List}
use Rattle.prices.specs.Fraction.{Fraction}

pub record Step : Type 0 where
  pub from : List ℕ
  pub to : List ℕ
  pub rate : Fraction
