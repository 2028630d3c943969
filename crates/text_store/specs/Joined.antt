-- The text of parts.
use Rattle.std.specs.Prelude.{ℕ, List, [], ◌∷◌, ◌++◌, Vec}
use Rattle.std.specs.Global.{Global}

-- the parts, one after the other
abbrev pub joined : List (Vec ℕ Global) → List ℕ
joined [] = []
joined (part ∷ parts) = part.items ++ joined parts
