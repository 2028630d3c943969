-- A file's end.
use Rattle.std.specs.Prelude.{◌≡◌, ℕ, List, [], ◌∷◌, ◌++◌, length}
use Rattle.text_store.specs.Entries.{open_from}

-- a file whose front is kept, and behind which no open record stands
abbrev pub IsShutAt : List ℕ → List ℕ → Type 0
IsShutAt front c = (gate : ℕ) × (tail : List ℕ) × (c ≡ front ++ gate ∷ tail) × (open_from (length (gate ∷ tail)) (length front) (gate ∷ tail) ≡ [])
