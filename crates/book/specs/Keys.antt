-- What a balance is asked of.
use Rattle.std.specs.Prelude.{ℕ, Bool, List}

-- the balance of an account in a symbol, of the account alone or with those below it
pub record Key : Type 0 where
  pub account : List ℕ
  pub symbol : List ℕ
  pub below : Bool
