-- Whether a file has a byte.
use Rattle.std.specs.Prelude.{◌≡◌, ℕ, Bool, true, false, List, []}

abbrev pub IsEmpty : Bool → List ℕ → Type 0
IsEmpty true file = file ≡ []
IsEmpty false file = (file ≡ []) → ⊥
