-- What a contract sees of the bytes that came over a link.
use Rattle.std.specs.Prelude.{ℕ, Bool, List}

-- the bytes that aren't used yet, and whether the end was seen
pub record Unread : Type 0 where
  pub bytes : List ℕ
  pub ended : Bool
