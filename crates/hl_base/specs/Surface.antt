-- What a contract sees of the bytes of a file in memory.
use Rattle.std.specs.Prelude.{ℕ, List}

-- the file's bytes, and how many it has room for
pub record Held : Type 0 where
  pub text : List ℕ
  pub room : ℕ
