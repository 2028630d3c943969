-- Names that are looked up.
use Rattle.std.specs.Prelude.{ℕ, Bool, List}
use Rattle.std.specs.HashSet.{contains_text}
use Rattle.book_care.specs.declared.names.Names.{Names}

-- a name is among them
abbrev pub has : Names → List ℕ → Bool
has names name = contains_text names.texts name
