-- What a register shows of a posting's transaction.
use Rattle.std.specs.Prelude.{ℕ, List}

-- the line of its head, and its description
pub record Headed : Type 0 where
  pub line : ℕ
  pub description : List ℕ
